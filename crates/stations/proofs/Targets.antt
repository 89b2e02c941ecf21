-- The frames of a store go to places of the list that are not set aside: a suspended place reads 00 with mark 0, so that its slot is neither empty nor live. Assumes nothing.
use Prim.Native.Nat.{ℕ, zero, suc, ◌+◌, ◌*◌, ◌/◌, ◌%◌, ◌<◌}
use mathlib.Core.Path.{◌≡◌, refl, subst}
use mathlib.Core.Bool.{Bool, true, false}
use mathlib.Core.List.{List, [], ◌∷◌}
use native.Mathlib.Omega.{arith}
use lib.ListN.{length}
use borrow.Author.Tests.{lt-ltb}
use Rattle.rules.specs.Words.{pick, holds, Each, end, ◌next◌}
use Rattle.rules.specs.Blocks.{read_locked}
use Rattle.rules.specs.Reading.{known, unknown, place_cell}
use Rattle.rules.specs.Numbers.{State}
use Rattle.rules.proofs.Bools.{and_split}
use Rattle.stations.specs.Slots.{slot_size, slot_count, those_from, byte_of, live, live_of, free_slot}
use Rattle.stations.specs.Plans.{program_at, clearings, storing_at}
use Rattle.stations.specs.Keeping.{shown_at}
use Rattle.stations.proofs.Same.{live_marks, free_empty, empty_blank}
use Rattle.stations.proofs.Frames.{Programs, programs}
use Rattle.stations.proofs.Writes.{set_aside}

-- ---- each of those numbers
pub those_each : (P : ℕ → Type 0) (t : ℕ → Bool) (i n : ℕ) → ((k : ℕ) → k < i + n → t k ≡ true → P k) → Each P (those_from t i n)
unfolding those_from
those_each P t i zero h = end
those_each P t i (suc n) h = go (t i) refl (those_each P t (suc i) n (λ k l e. h k (omega arith) e))
  where
    go : (b : Bool) → t i ≡ b → Each P (those_from t (suc i) n) → Each P (pick b (i ∷ those_from t (suc i) n) (those_from t (suc i) n))
    go true e ih = h i (omega arith) e next ih
    go false e ih = ih

-- ---- a place that reads other than 00 is not set aside

module _ (s : State) where
  apart : (p : ℕ) → p < 65536 → ((shown_at s p).byte ≡ 0 → ⊥) → holds (set_aside s) (0x10000 + p) ≡ false
  unfolding shown_at place_cell
  apart p low h = go (read_locked s.chip.rest.locks.protection (0x10000 + p)) (holds (set_aside s) (0x10000 + p)) refl (λ z. h (rw (lt-ltb p 65536 low) z))
    where
      go : (x y : Bool) → holds (set_aside s) (0x10000 + p) ≡ y → ((pick x (known 0) (pick y unknown (known (s.array.byte (0x10000 + p))))).byte ≡ 0 → ⊥) → y ≡ false
      go true y e f = absurd (f refl)
      go false true e f = absurd (f refl)
      go false false e f = refl

  -- a 02 there
  reaches : (i j b : ℕ) (bytes : List ℕ) → i * slot_size + j < 65536 → length bytes < 65532 → (byte_of (shown_at s) i j ≡ 0 → ⊥) → Programs (set_aside s) (program_at (i * slot_size + j) (b ∷ bytes))
  unfolding byte_of
  reaches i j b bytes low few h = programs (i * slot_size + j) b bytes low few (apart (i * slot_size + j) low h)

  -- a mark
  marks_at : (i a b : ℕ) → i < slot_count → (byte_of (shown_at s) i 0 ≡ 0 → ⊥) → Programs (set_aside s) (program_at (i * slot_size) (a ∷ b ∷ []))
  marks_at i a b low h =
      let z : i * slot_size + 0 ≡ i * slot_size = omega arith in
      subst (λ (p : ℕ). Programs (set_aside s) (program_at p (a ∷ b ∷ []))) z (reaches i 0 a (b ∷ []) (omega arith) (omega arith) h)

  clearings_reach : (is : List ℕ) → Each (λ (i : ℕ). (i < slot_count) × (live (shown_at s) i ≡ true)) is → Each (Programs (set_aside s)) (clearings is)
  unfolding clearings
  clearings_reach is end = end
  clearings_reach is (◌next◌ {x = i} {xs = ks} p ps) =
      marks_at i 0x00 0x00 p.0 (λ z. let q = (live_marks (shown_at s) i p.1).0 in omega arith) next clearings_reach ks ps

  blank_byte : free_slot (shown_at s) < slot_count → (j : ℕ) → j < slot_size → byte_of (shown_at s) (free_slot (shown_at s)) j ≡ 0xFF
  blank_byte h j l = empty_blank (shown_at s) (free_slot (shown_at s)) (free_empty (shown_at s) h) j l

  -- every frame of the plan
  pub plan_reaches : (n : ℕ) (bytes : List ℕ) → length bytes ≡ 28 → free_slot (shown_at s) < slot_count → Each (Programs (set_aside s)) (storing_at (shown_at s) n bytes (free_slot (shown_at s)))
  unfolding live_of
  plan_reaches n bytes size h =
      reaches (free_slot (shown_at s)) 2 (n / 256 % 256) (n % 256 ∷ bytes) (omega arith) (omega arith) (λ z. let q = blank_byte h 2 (omega arith) in omega arith)
      next marks_at (free_slot (shown_at s)) 0x53 0x54 h (λ z. let q = blank_byte h 0 (omega arith) in omega arith)
      next clearings_reach (those_from (live_of (shown_at s) n) 0 slot_count)
      (those_each (λ (i : ℕ). (i < slot_count) × (live (shown_at s) i ≡ true)) (live_of (shown_at s) n) 0 slot_count (λ k l e. (omega arith, (and_split _ _ e).0)))
