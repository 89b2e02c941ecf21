-- What the calls of an operation come to. Assumes nothing.
use Prim.Native.Nat.{ℕ}
use mathlib.Core.Path.{◌≡◌, refl, sym, ap, ◌∙◌}
use mathlib.Core.Bool.{Bool, true, false}
use mathlib.Core.List.{List}
use lib.Dec.{eqb}
use lib.ListN.{length, get_or}
use Rattle.rules.specs.declared.Refusal.{Refusal}
use Rattle.rules.specs.Words.{lent, written}
use Rattle.rules.specs.Registers.{busy}
use Rattle.rules.specs.Frames.{opcode}
use Rattle.std.specs.Prelude.{Ok, Err, is_ok}
use Rattle.rules.specs.Numbers.{Answer, answer_number, State}
use Rattle.rules.specs.Machine.{frame, left}
use Rattle.rules.specs.Promises.{Carried, Returned, bench_of, state_of, frame_of, outcome_of, FramePromise, CompletionPromise}
use Rattle.rules.specs.Promises as promises
use Rattle.serprog.specs.Showing.{shown_byte}
use Rattle.operating.specs.declared.Bench.{Bench}
use Rattle.operating.specs.Operations.{due_before, reads_after, settled_state, leaves, finished, operated, SettledPromise}

done_number : (a : Answer) → is_ok a ≡ eqb (answer_number a) 0
done_number (Ok x) = refl
done_number (Err Refusal.Malformed) = refl
done_number (Err Refusal.Empty) = refl
done_number (Err Refusal.NotListed) = refl
done_number (Err Refusal.WrongLength) = refl
done_number (Err Refusal.Busy) = refl
done_number (Err Refusal.NoEnable) = refl
done_number (Err Refusal.NoIoc) = refl
done_number (Err Refusal.Suspension) = refl
done_number (Err Refusal.NoWel) = refl
done_number (Err Refusal.Closed) = refl
done_number (Err Refusal.WriteLocked) = refl
done_number (Err Refusal.NothingRuns) = refl
done_number (Err Refusal.NoSuchBurst) = refl

pub settles : {ends : Bool} {s : promises.Bench} {g : Returned} → ends ≡ true → CompletionPromise s g
    → SettledPromise ends s (bench_of g.after.chip g.array g.security)
settles {ends} {s} {g} e p = record { outcome = ap left p.outcome ∙ ap (λ (b : Bool). settled_state b (state_of s)) (sym e) }

pub stays : {ends : Bool} {s : promises.Bench} → ends ≡ false → SettledPromise ends s s
stays {ends} {s} e = record { outcome = ap (λ (b : Bool). settled_state b (state_of s)) (sym e) }

-- the calls in a row: the opcode, whether the chip was busy and its work ends, the frame, what is shown, whether the chip is busy, the count
pub operates : (b : Bench) (shown : List ℕ) {op reads : ℕ} {was ends done is : Bool} {s t : promises.Bench} {f : Carried} {g : Returned}
    → op ≡ opcode f.sent → was ≡ busy b.chip.rest → ends ≡ due_before was b.reads op → SettledPromise ends s t → FramePromise t f g
    → done ≡ is_ok g.after.answer
    → lent shown ≡ written (length g.reply) (λ i. shown_byte b.disguise done op i (get_or g.reply i 0))
    → is ≡ busy g.after.chip.rest → reads ≡ reads_after is b.reads op
    → leaves (record { chip = g.after.chip; reads = reads; disguise = b.disguise }) g.array g.security shown g.marks
    ≡ operated b (state_of s) (frame_of f)
unfolding operated
operates b shown {op} {reads} {was} {ends} {done} {is} {s} {t} {f} {g} eop ewas eends es ef edone eshown eis ereads =
    fields ∙ ap (finished b (opcode f.sent)) whole
  where
    due : ends ≡ due_before (busy b.chip.rest) b.reads (opcode f.sent)
    due = eends ∙ (λ i. due_before (ewas i) b.reads (eop i))

    settled : state_of t ≡ settled_state (due_before (busy b.chip.rest) b.reads (opcode f.sent)) (state_of s)
    settled = es.outcome ∙ ap (λ (e : Bool). settled_state e (state_of s)) due

    whole : outcome_of g ≡ frame (settled_state (due_before (busy b.chip.rest) b.reads (opcode f.sent)) (state_of s)) (frame_of f)
    whole = ef.outcome ∙ ap (λ (s : State). frame s (frame_of f)) settled

    count : reads ≡ reads_after (busy g.after.chip.rest) b.reads (opcode f.sent)
    count = ereads ∙ (λ i. reads_after (eis i) b.reads (eop i))

    seen : lent shown ≡ written (length g.reply) (λ i. shown_byte b.disguise (eqb (answer_number g.after.answer) 0) (opcode f.sent) i (get_or g.reply i 0))
    seen = eshown ∙ (λ j. written (length g.reply) (λ i. shown_byte b.disguise ((edone ∙ done_number g.after.answer) j) (eop j) i (get_or g.reply i 0)))

    fields : leaves (record { chip = g.after.chip; reads = reads; disguise = b.disguise }) g.array g.security shown g.marks ≡ finished b (opcode f.sent) (outcome_of g)
    fields = λ j. record { bench = record { chip = g.after.chip; reads = count j; disguise = b.disguise }; array = lent g.array; security = lent g.security; reply = seen j; marks = lent g.marks }
