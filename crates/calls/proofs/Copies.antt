-- The read of a copy of the record leaves the memories as they are; the data of a line. Assumes nothing.
use Prim.Native.Nat.{ℕ, min}
use mathlib.Core.Path.{◌≡◌, refl, sym, ap, subst, ◌∙◌}
use mathlib.Core.Bool.{Bool, true, false, ◌&&◌}
use mathlib.Core.List.{List}
use native.Mathlib.Omega.{arith}
use lib.Dec.{eqb, leb}
use lib.ListN.{length, replicate, take-append-drop}
use Rattle.rules.specs.declared.After.{After}
use Rattle.rules.specs.Words.{Lent, lent}
use Rattle.rules.specs.Numbers.{answer_number}
use Rattle.rules.specs.Registers.{busy}
use Rattle.rules.specs.Machine.{Outcome}
use Rattle.rules.proofs.Promises.{lent_one}
use Rattle.rules.proofs.Tears.{frames_leave}
use Rattle.meanings.specs.Meanings.{over}
use Rattle.grammar.specs.Slots as slots
use Rattle.fields.specs.Records.{said}
use Rattle.script.specs.declared.Line.{Line}
use Rattle.standing.specs.declared.Bench.{Bench}
use Rattle.chip.specs.declared.events.Event.{Event}
use Rattle.standing.specs.Benches.{front}
use Rattle.lending.specs.Lending.{state_lent_lem, outcome, Happened}
use Rattle.lending.specs.Lending as lending
use Rattle.lending.proofs.Parts.{part_over}
use Rattle.calls.specs.Lists.{data_of}
use Rattle.calls.specs.Calls.{read_line, read_bytes, Shown}

neither : (b : Bool) → (b && false) ≡ false
neither true = refl
neither false = refl

-- what was lent came back as it was
whole_over : (l : List ℕ) (n : ℕ) → lending.over (lent (front n l)) l ≡ lent l
whole_over l n =
    sym (part_over l (front n l) (min n (length l)) (lent (front n l)) (omega arith) refl refl) ∙ ap lent (take-append-drop (min n (length l)) l)

module _ (b : Bench) (A S R M : List ℕ) where
  o : Outcome
  o = outcome Event.Frame b read_line A S read_bytes R M

  leaves : (o.array ≡ (state_lent_lem b A S).array) × (o.security ≡ (state_lent_lem b A S).security)
  unfolding o
  leaves = frames_leave (state_lent_lem b A S) _ (ap (λ (t : Bool). t && busy b.chip.rest) (neither (eqb o.number 0)))

  pub shown_is : {l : Line} → l ≡ read_line → (after : After) {n : ℕ} → n ≡ answer_number after.answer → (A' S' R' M' : List ℕ)
      → Happened (outcome Event.Frame b l A S read_bytes R M) (answer_number after.answer) after.chip A S R M A' S' R' M'
      → Shown b A S R M n A' S' R' M'
  unfolding o
  shown_is {l} e after q A' S' R' M' p =
      let h = subst (λ (x : Line). Happened (outcome Event.Frame b x A S read_bytes R M) (answer_number after.answer) after.chip A S R M A' S' R' M') e p in
      record {
        number_is = q ∙ h.ended.number_is;
        reply_is = h.reply_is;
        marks_are = h.marks_are;
        array_is = lent_one A' A (h.ended.array_is ∙ ap (λ (x : Lent). lending.over x A) leaves.0 ∙ whole_over A b.array);
        security_is = lent_one S' S (h.ended.security_is ∙ ap (λ (x : Lent). lending.over x S) leaves.1 ∙ whole_over S b.security);
      }

-- ---- the data of a line

module _ (s sent : List ℕ) where
  pub data_text : (said s slots.as_text && leb (length sent) 28) ≡ true → data_of s sent ≡ over sent (replicate 28 0x20)
  unfolding data_of
  data_text e = rw e

  pub data_plain : (said s slots.as_text && leb (length sent) 28) ≡ false → data_of s sent ≡ sent
  unfolding data_of
  data_plain e = rw e
