-- The calls in a row: the bytes read, the chip's turn with the page in place, the record written back, the number. Assumes nothing.
use Prim.Native.Nat.{ℕ}
use mathlib.Core.Path.{◌≡◌, refl, sym, ap, ◌∙◌, subst}
use mathlib.Core.Bool.{Bool, true, false, not, false≢true}
use mathlib.Core.List.{List, [], ◌∷◌, ◌++◌}
use native.Mathlib.Omega.{arith}
use lib.ListN.{length, get_or, take, drop}
use lib.Seq.{length-take-le, length_front, take_at}
use borrow.Author.Tests.{eq-eqb, ne_eqb, not-true, not-false}
use Rattle.rules.specs.declared.Chip.{Chip}
use Rattle.rules.specs.declared.Circumstances.{Circumstances}
use Rattle.rules.specs.declared.Rest.{Rest}
use Rattle.rules.specs.declared.Turn.{Turn}
use Rattle.rules.specs.declared.Works.{Works}
use Rattle.rules.specs.declared.Work.TheVariants.{Nothing}
use Rattle.rules.specs.Fields.{works_of, rest_of, chip_of}
use Rattle.rules.specs.Commands.{new_of}
use Rattle.rules.specs.Numbers.{answer_number, state_right}
use Rattle.rules.specs.Machine.{Outcome, step, run}
use Rattle.rules.specs.Promises.{Bench, Returned, bench_of, carried_of, returned_of, after_of, state_of, outcome_of}
use Rattle.rules.specs.Demands.{Call, frame_call, completion_call, cut_call, Meets, event_of}
use Rattle.rules.proofs.Runs.{demand_2}
use Rattle.rules.proofs.Tears.{reset_99}
use Rattle.record_code.specs.Layout.{record_size, rest_code, code, is_code, NothingReserved, rest_in, chip_in}
use Rattle.record_code.proofs.Faithful.{code_of, chip_in_lem, known_length, known_reserved, reserved_kept}
use Rattle.chip.specs.declared.events.Event.{Event}
use Rattle.chip.specs.Turns.{call_of, LentFor, cutting, resetting, stop_call, StoppedWith, Stoppable}
use Rattle.bench.specs.Images.{idle_of}
use Rattle.bench.specs.Boundary.{LentBench, Came, came_of, untouched, StopAsked, seen_of, coded, called, CallPromise, new_bytes, NewPromise}

-- ---- the page in a record's bytes

module _ (l : List ℕ) (size : length l ≡ record_size) where
  pub page_size : length (take 256 l) ≡ 256
  page_size = length-take-le 256 l (omega arith)

  module _ (p : List ℕ) (kept : length p ≡ length (take 256 l)) where
    -- the page changed in place leaves the length
    pub page_back : length (p ++ drop 256 l) ≡ record_size
    page_back = length_front l p 256 kept ∙ size

    -- and what is put behind it makes a record's code
    pub rest_put : (q : Rest) → take 256 (p ++ drop 256 l) ++ rest_code q ≡ code (chip_of p q)
    rest_put q = ap (λ (x : List ℕ). x ++ rest_code q) (take_at p (drop 256 l) 256 (kept ∙ page_size)) ∙ sym (code_of p q)

-- the same of bytes that are tested to be a code
module _ (l : List ℕ) (x : Bool) (ex : x ≡ is_code l) (h : not x ≡ false) where
  pub code_size : length l ≡ record_size
  code_size = known_length l (sym ex ∙ not-false x h)

  pub code_page : length (take 256 l) ≡ 256
  code_page = page_size l code_size

  -- the page changed in place leaves the length and the reserved bytes
  pub code_back : (p : List ℕ) → length p ≡ length (take 256 l) → (length (p ++ drop 256 l) ≡ record_size) × NothingReserved (p ++ drop 256 l)
  code_back p kept = (page_back l code_size p kept, reserved_kept p l (kept ∙ code_page) (known_reserved l (sym ex ∙ not-false x h)))

-- ---- a new chip

pub new_refused : (ba : Bool) (bytes : List ℕ) → (length bytes ≡ record_size → ⊥) → NewPromise ba bytes 1 bytes
unfolding new_bytes
new_refused ba bytes h = record { outcome = rw (ne_eqb (length bytes) record_size h) }

pub new_done : (ba : Bool) (bytes : List ℕ) (r : Rest) (l : List ℕ) → length bytes ≡ record_size → r ≡ (new_of ba).rest → l ≡ code (idle_of r) → NewPromise ba bytes 0 l
unfolding new_bytes
new_done ba bytes r l h er el = record { outcome = rw (eq-eqb (length bytes) record_size h) (λ i. (0, (el ∙ ap (λ (q : Rest). code (idle_of q)) er) i)) }

-- ---- the three events

-- a call that meets its guarantee is the machine's step: a chain of one
met_step : (b : Bench) (e : Call) (g : Returned) → Meets b e g → outcome_of g ≡ step (state_of b) (event_of e)
unfolding run
met_step b e g h = ap (λ (os : List Outcome). get_or os 0 (outcome_of g)) (demand_2 b (e ∷ []) (g ∷ []) (h, tt)).machine

module _ (b : LentBench) (e : Call) (x : Bool) (ex : x ≡ is_code b.bytes) where
  pub call_refused : not x ≡ true → CallPromise b e (untouched 1 b e)
  unfolding called
  call_refused h = record { outcome = rw (sym ex ∙ not-true x h) }

  pub call_taken : (r : Rest) (t : Turn) (p l array security reply marks : List ℕ) (n : ℕ) → not x ≡ false → r ≡ rest_in b.bytes
      → Meets (bench_of (chip_of (take 256 b.bytes) r) b.array b.security) e (returned_of (after_of t p) array security reply marks)
      → length p ≡ length (take 256 b.bytes) → l ≡ take 256 (p ++ drop 256 b.bytes) ++ rest_code t.rest → n ≡ answer_number t.answer
      → CallPromise b e (came_of n l array security reply marks)
  unfolding called
  call_taken r t p l array security reply marks n h er m k el en = record { outcome = rw (sym ex ∙ not-false x h) (numbered ∙ ap coded (met_step _ e came m) ∙ ap (λ (c : Chip). coded (step (state_of (bench_of c b.array b.security)) (event_of e))) read) }
    where
      came : Returned
      came = returned_of (after_of t p) array security reply marks

      read : chip_of (take 256 b.bytes) r ≡ chip_in b.bytes
      read = ap (chip_of (take 256 b.bytes)) er ∙ sym (chip_in_lem b.bytes)

      numbered : seen_of (came_of n l array security reply marks) ≡ coded (outcome_of came)
      numbered = λ i. seen_of (came_of (en i) ((el ∙ rest_put b.bytes (code_size b.bytes x ex h) p k t.rest) i) array security reply marks)

-- the same where nothing runs or is suspended after it, and the number is 0
pub call_stopped : (b : LentBench) (e : Call) (r : Rest) (t : Turn) (p l array security reply marks : List ℕ) → is_code b.bytes ≡ true → r ≡ rest_in b.bytes
    → Meets (bench_of (chip_of (take 256 b.bytes) r) b.array b.security) e (returned_of (after_of t p) array security reply marks) × ((answer_number t.answer ≡ 0) × (t.rest.works ≡ works_of Nothing Nothing))
    → length p ≡ length (take 256 b.bytes) → l ≡ take 256 (p ++ drop 256 b.bytes) ++ rest_code (rest_of t.rest.locks (works_of Nothing Nothing) t.rest.flags t.rest.burst)
    → CallPromise b e (came_of 0 l array security reply marks)
call_stopped b e r t p l array security reply marks c er m k el =
    call_taken b e true (sym c) r t p l array security reply marks 0 refl er m.0 k
    (el ∙ (λ i. take 256 (p ++ drop 256 b.bytes) ++ rest_code (rest_of t.rest.locks (sym m.1.1 i) t.rest.flags t.rest.burst)))
    (sym m.1.0)

-- where nothing is lent for a reply, nothing is left of it
pub event_refused : (b : LentBench) (e : Event) (sent reply marks : List ℕ) (c : Circumstances) (x : Bool) → x ≡ is_code b.bytes → LentFor e reply → LentFor e marks → not x ≡ true
    → CallPromise b (call_of e sent reply marks c) (came_of 1 b.bytes b.array b.security reply marks)
event_refused b Event.Frame sent reply marks c x ex y m h = call_refused b (frame_call (carried_of sent reply marks c)) x ex h
event_refused b Event.Completion sent reply marks c x ex y m h = rw (y, m) (call_refused b completion_call x ex h)
event_refused b Event.Cut sent reply marks c x ex y m h = rw (y, m) (call_refused b (cut_call c.tear) x ex h)

-- ---- an event that stops what runs

-- the record read again, its works beside the rest
pub rest_again : (l : List ℕ) (q : Rest) (w : Works) → q ≡ rest_of (rest_in l).locks (works_of Nothing Nothing) (rest_in l).flags (rest_in l).burst → w ≡ (rest_in l).works
    → rest_of q.locks w q.flags q.burst ≡ rest_in l
rest_again l q w eq ew = λ i. rest_of (eq i).locks (ew i) (eq i).flags (eq i).burst

pub stop_asked : (up : Bool) (l array security reply marks : List ℕ) (r : Rest) → r ≡ rest_in l → StopAsked up l array security reply marks → Stoppable up r (take 256 l) array security reply marks
stop_asked up l array security reply marks r e h = subst (λ (q : Rest). Stoppable up q (take 256 l) array security reply marks) (sym e) h.chip

module _ (b : LentBench) (known : Bool) (r : Rest) (sent reply marks : List ℕ) (x : Bool) (ex : x ≡ is_code b.bytes) (h : not x ≡ false) (er : r ≡ rest_in b.bytes) (ek : known ≡ state_right (state_of (bench_of (chip_of (take 256 b.bytes) r) b.array b.security))) where
  asked : (up : Bool) → known ≡ true → StoppedWith up r reply marks → StopAsked up b.bytes b.array b.security reply marks
  asked up k s =
      record {
        coded = sym ex ∙ not-false x h;
        chip = subst (λ (q : Rest). Stoppable up q (take 256 b.bytes) b.array b.security reply marks) er (record { paged = code_page b.bytes x ex h; right = sym ek ∙ k; taken = s });
      }

  pub cut_asked : (e : Event) → cutting e known ≡ true → LentFor e reply → LentFor e marks → StopAsked true b.bytes b.array b.security reply marks
  cut_asked Event.Frame c y m = absurd (false≢true c)
  cut_asked Event.Completion c y m = absurd (false≢true c)
  cut_asked Event.Cut c y m = asked true c (y, m)

  pub reset_asked : (e : Event) → resetting e known r sent (length reply) (length marks) ≡ true → StopAsked false b.bytes b.array b.security reply marks
  reset_asked Event.Frame c = let s = reset_99 known r sent (length reply) (length marks) c in asked false s.known s.taken
  reset_asked Event.Completion c = absurd (false≢true c)
  reset_asked Event.Cut c = absurd (false≢true c)

-- the call that it was
module _ (b : LentBench) (known : Bool) (r : Rest) (sent reply marks : List ℕ) (x : Circumstances) (g : Came) where
  pub cut_called : (e : Event) → cutting e known ≡ true → CallPromise b (stop_call true reply marks x) g → CallPromise b (call_of e sent reply marks x) g
  cut_called Event.Frame c p = absurd (false≢true c)
  cut_called Event.Completion c p = absurd (false≢true c)
  cut_called Event.Cut c p = p

  pub reset_called : (e : Event) → resetting e known r sent (length reply) (length marks) ≡ true → CallPromise b (stop_call false reply marks x) g → CallPromise b (call_of e sent reply marks x) g
  reset_called Event.Frame c p = rw (reset_99 known r sent (length reply) (length marks) c).alone p
  reset_called Event.Completion c p = absurd (false≢true c)
  reset_called Event.Cut c p = absurd (false≢true c)

-- ---- a completion and a power cut are lent no reply

none : (l : List ℕ) → length l ≡ 0 → l ≡ []
none [] e = refl
none (x ∷ l) e = absurd (omega arith)

pub event_left : (b : LentBench) (e : Call) (n : ℕ) (bytes array security y m : List ℕ) → length y ≡ 0 → length m ≡ 0
    → CallPromise b e (came_of n bytes array security y m) → CallPromise b e (came_of n bytes array security [] [])
event_left b e n bytes array security y m hy hm p = rw (none y hy, none m hm) at p
