-- What a call leaves of the chip's record: each moment of a store is one before its writes or one of them, and both keep it; its end has the chip of its number, and the buffers hold what the read shows. Assumes nothing.
use Prim.Native.Nat.{ℕ}
use mathlib.Core.Path.{◌≡◌, refl, sym, ap, ◌∙◌}
use mathlib.Core.Bool.{Bool, true, false, not, ◌&&◌, false≢true}
use mathlib.Core.List.{List, []}
use mathlib.Core.Logic.{◌⊎◌, inl}
use native.Mathlib.Omega.{arith}
use lib.Dec.{eqb, ltb, leb}
use lib.ListN.{length, take}
use borrow.Author.Tests.{eqb-true, eqb-false, ne_eqb}
use Rattle.rules.specs.declared.Tear.{Tear}
use Rattle.rules.specs.Words.{pick, Lent}
use Rattle.rules.specs.Works.{tear_of}
use Rattle.rules.specs.Registers.{busy}
use Rattle.rules.specs.Commands.{settled_first, after_cut}
use Rattle.rules.specs.Numbers.{State, state_right}
use Rattle.rules.specs.Machine.{Outcome, cuts, step, left, power_cut}
use Rattle.rules.proofs.Bools.{and_split}
use Rattle.rules.proofs.Numbers.{cut_given}
use Rattle.rules.proofs.Refusals.{cut_done_whole}
use Rattle.stations.specs.Slots.{Shown, slot_count, data_size, slot_of, found}
use Rattle.stations.specs.Plans.{refused, writing, looking_up}
use Rattle.stations.specs.Calls.{Script, ends, Ended, played, writes, reading, shown_by, list_size, carried_out, calling, buffers_right, store_right, lookup_right, store_call, lookup_call}
use Rattle.stations.specs.Promises.{came_by, stored, looked_up}
use Rattle.stations.specs.Given.{lookup_number}
use Rattle.stations.specs.Keeping.{shown_at}
use Rattle.stations.specs.Records.{used, read_number_lem, ReadGiven, SameRecord, StoreKeepsRecord, LookupKeepsRecord, store_frames, StoreLeavesRecord, Reads, StoreReads, LookupBuffers, LookupAfterCut}
use Rattle.stations.proofs.Programmed.{programmed_all}
use Rattle.stations.proofs.Frames.{step_right}
use Rattle.stations.proofs.Reading.{read_number, read_state, read_keeps, read_shows, read_sizes}
use Rattle.stations.proofs.Polls.{Always, always_ends, always_does}
use Rattle.stations.proofs.Given.{lookup_given, early_same, store_came, Moment, early, late, store_moments}

sizes : (reply marks : Lent) → buffers_right reply marks ≡ true → (reply.size ≡ list_size) × (marks.size ≡ list_size)
sizes reply marks e = let h = and_split (eqb reply.size list_size) (eqb marks.size list_size) e in (eqb-true reply.size list_size h.0, eqb-true marks.size list_size h.1)

pub read_given : ReadGiven
read_given s reply marks e = let h = sizes reply marks e in record { number = read_number s reply marks h.0 h.1; state = read_state s reply marks h.0 h.1 }

-- ---- at each moment

moment_same : (s t : State) (n : ℕ) (bytes : List ℕ) → Moment s n bytes t → SameRecord s t
moment_same s t n bytes (early e) = early_same s t e
moment_same s t n bytes (late ready size low k) = k.kept.same

pub store_keeps_record : StoreKeepsRecord
store_keeps_record s t reply marks n bytes allowance list m = moment_same s t n bytes (store_moments s reply marks n bytes allowance list t m)

pub lookup_keeps_record : LookupKeepsRecord
unfolding lookup_call calling looking_up writes
lookup_keeps_record s t reply marks n buffer = go (lookup_right reply marks buffer) t
  where
    P : State → Type 0
    P t = (t ≡ s) ⊎ (t ≡ used s)

    o : Outcome
    o = step s (reading reply marks)

    ending : (x y : Bool) → Always P (left o) (pick x (carried_out 0 [] (pick y (writing []) (refused 17))) (ends o.number 0))
    ending true true = always_ends P (left o) 0 0 (read_keeps s reply marks)
    ending true false = always_ends P (left o) 17 0 (read_keeps s reply marks)
    ending false y = always_ends P (left o) o.number 0 (read_keeps s reply marks)

    go : (b : Bool) → Always P s (calling b reply marks 0 [] (λ v. looking_up v n))
    go true = always_does P s (reading reply marks) _ (inl refl) (ending (eqb o.number 0) (ltb (slot_of (shown_by o) n) slot_count))
    go false = always_ends P s 1 0 (inl refl)

-- ---- at the end

pub store_leaves_record : StoreLeavesRecord
store_leaves_record s reply marks n bytes allowance list =
    let k = store_came s reply marks n bytes allowance list in
    record { chip = k.chip; array = λ z. k.array ∙ ap (λ (w : ℕ). programmed_all (take w (store_frames s n bytes)) s.array) z; security = k.same.security }

-- ---- the buffers

module _ (s : State) (reply marks : Lent) where
  abbrev o : Outcome
  o = step s (reading reply marks)

  -- what a done read shows
  shows : buffers_right reply marks ≡ true → o.number ≡ 0 → shown_by o ≡ shown_at s
  shows e z = let h = sizes reply marks e in read_shows s reply marks h.0 h.1 z

  reads_by : (right : Bool) (call : Script) → right ≡ true → buffers_right reply marks ≡ true → read_number_lem s ≡ 0 → Reads s (came_by right s reply marks call)
  reads_by false call r e z = absurd (false≢true r)
  reads_by true call r e z =
      let number = (read_given s reply marks e).number ∙ z in
      let k = read_sizes s reply marks number in
      record {
        reply = λ p. ap (λ (v : Shown). (v p).byte) (shows e number);
        marks = λ p. ap (λ (v : Shown). (v p).mark) (shows e number);
        reply_size = k.0 ∙ (sizes reply marks e).0;
        marks_size = k.1 ∙ (sizes reply marks e).1;
      }

pub store_reads : StoreReads
unfolding stored
store_reads s reply marks n bytes allowance list r z =
    let h = and_split (buffers_right reply marks && eqb (length bytes) data_size) (leb allowance 65535) r in
    reads_by s reply marks (store_right reply marks bytes allowance) (store_call reply marks n bytes allowance list) r (and_split (buffers_right reply marks) (eqb (length bytes) data_size) h.0).0 z

pub lookup_buffers : LookupBuffers
unfolding looked_up lookup_number
lookup_buffers s reply marks n buffer =
    record {
      reads = λ r z. reads_by s reply marks (lookup_right reply marks buffer) (lookup_call reply marks n buffer) r (fits r) z;
      done = λ z. ap (λ (k : ℕ). pick (eqb k 0) given buffer) (number ∙ z) ∙ ap (λ (v : Shown). found v n) (seen z);
      refused = λ some. ap (λ (b : Bool). pick b given buffer) (ne_eqb (played s (lookup_call reply marks n buffer)).number 0 (λ z. some (sym number ∙ z)));
    }
  where
    given : List ℕ
    given = found (shown_by (step s (reading reply marks))) n

    number : (played s (lookup_call reply marks n buffer)).number ≡ lookup_number s reply marks n buffer
    number = ap (λ (e : Ended). e.number) (lookup_given s reply marks n buffer)

    fits : lookup_right reply marks buffer ≡ true → buffers_right reply marks ≡ true
    fits r = (and_split (buffers_right reply marks) (eqb (length buffer) data_size) r).0

    -- a done lookup was right, and its read was done
    seen : lookup_number s reply marks n buffer ≡ 0 → shown_by (step s (reading reply marks)) ≡ shown_at s
    seen z = go (lookup_right reply marks buffer) (eqb (step s (reading reply marks)).number 0) refl refl z
      where
        go : (x y : Bool) → lookup_right reply marks buffer ≡ x → eqb (step s (reading reply marks)).number 0 ≡ y
            → pick (not x) 1 (pick (not y) (step s (reading reply marks)).number (pick (not (ltb (slot_of (shown_by (step s (reading reply marks))) n) slot_count)) 17 0)) ≡ 0
            → shown_by (step s (reading reply marks)) ≡ shown_at s
        go false y a b z = absurd (omega arith)
        go true false a b z = absurd (eqb-false (step s (reading reply marks)).number 0 b z)
        go true true a b z = shows s reply marks (fits a) (eqb-true (step s (reading reply marks)).number 0 b)

-- ---- after a power cut

powered_up_lem : (t : State) (tear : Tear) → state_right t ≡ true → read_number_lem (left (power_cut t tear)) ≡ 0
unfolding step
powered_up_lem t tear r = λ i. pick (not (right i)) 1 (pick (rest i).flags.sqi 3 (pick (busy (rest i)) 5 0))
  where
    right : state_right (left (power_cut t tear)) ≡ true
    right = step_right t (cuts tear) r

    rest : (power_cut t tear).chip.rest ≡ after_cut (settled_first tear.k t.chip.rest)
    rest = ap (λ (o : Outcome). o.chip.rest) (cut_done_whole t tear ((cut_given t tear).is_0.1 r))

pub lookup_after_cut : LookupAfterCut
unfolding lookup_number
lookup_after_cut t k m reply marks n buffer r right =
    let none = powered_up_lem t (tear_of k m) r in
    let u = left (power_cut t (tear_of k m)) in
    let fits = (and_split (buffers_right reply marks) (eqb (length buffer) data_size) right).0 in
    let number = (read_given u reply marks fits).number ∙ none in
    let v = shows u reply marks fits number in (
      none,
      (λ i. pick (not (right i)) 1 (pick (not (eqb (number i) 0)) (number i) (pick (not (ltb (slot_of (v i) n) slot_count)) 17 0))) ∙ turn (ltb (slot_of (shown_at u) n) slot_count),
    )
  where
    turn : (b : Bool) → ◌≡◌ {A = ℕ} (pick (not b) 17 0) (pick b 0 17)
    turn true = refl
    turn false = refl
