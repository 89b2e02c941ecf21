-- Lookups in the middle of a store and after its writes. The live slots of another number are those of before; those of the number itself are the new one, once its mark is there,
-- and the old ones whose marks are not yet cleared, and the first of these is the lower one of the new slot and the next to be cleared. Assumes nothing.
use Prim.Native.Nat.{ℕ, ◌+◌, ◌-◌, ◌*◌, ◌≤◌, ◌<◌}
use mathlib.Core.Path.{◌≡◌, refl, sym, ap, ◌∙◌, subst}
use mathlib.Core.Bool.{Bool, true, false, true≢false}
use mathlib.Core.List.{List, [], ◌∷◌}
use mathlib.Core.Logic.{inl, inr}
use native.Mathlib.Omega.{arith}
use native.Mathlib.Decide.{ℕ_discrete}
use lib.Dec.{ltb}
use lib.ListN.{length, get_or, get_or-eq_default}
use borrow.Author.Tests.{ltb-true, ltb-false, lt-ltb}
use Rattle.rules.specs.declared.Cell.{Cell}
use Rattle.rules.specs.Words.{pick, one_of}
use Rattle.rules.specs.Reading.{known}
use Rattle.rules.proofs.Bools.{and_both, never}
use Rattle.stations.specs.Slots.{Shown, slot_count, data_size, byte_of, live, station, live_of, slot_of, bytes_of, found, free_slot}
use Rattle.stations.specs.Keeping.{cleared_by, after_writes, Storable, next_live_lem, OneOfItsOwn, its_new, its_earlier}
use Rattle.stations.proofs.First.{those_rise, Place, Early, one_of_take, take_one_of}
use Rattle.stations.proofs.Same.{and_no_left, SameFrom, same_tail, same_station, same_live_of, same_data, marks_live, no_mark, live_of_split, live_of_both, not_live_of, other_station, slot_is, slot_one, slot_some, slot_same, found_at, found_same}
use Rattle.stations.proofs.Own.{own_same}
use Rattle.stations.proofs.Midway.{lives_of, lives_in, lives_has, after_mark, after_other, after_same, after_underway, Midway, Turned, free_not_live_of, live_not_free, midway, turned, others_live, unmarked}

module _ (v : Shown) (n : ℕ) (bytes : List ℕ) (room : free_slot v < slot_count) (x : Shown) (m : Midway v n bytes x) where
  -- a slot other than the new one that is live of the number now was so before
  pub live_before : (i : ℕ) → i < slot_count → (i ≡ free_slot v → ⊥) → live_of x n i ≡ true → live_of v n i ≡ true
  live_before i l ne e = go (live_of v n i) refl
    where
      go : (b : Bool) → live_of v n i ≡ b → live_of v n i ≡ true
      go true p = p
      go false p = same_live_of v x n i (m.rest i l ne p) ∙ e

  kept_data : (q i : ℕ) → i < slot_count → live_of v q i ≡ true → SameFrom 2 v x i
  kept_data q i l e = go (live_of v n i) refl
    where
      go : (b : Bool) → live_of v n i ≡ b → SameFrom 2 v x i
      go true p = m.tail i l p
      go false p = same_tail v x i (m.rest i l (live_not_free v n room q i e) p)

  -- ---- other numbers

  pub midway_others : (q : ℕ) → (q ≡ n → ⊥) → found x q ≡ found v q
  midway_others q ne = found_same v x q (λ i l. go i l (ℕ_discrete i (free_slot v)) (live_of v n i) refl) (kept_data q)
    where
      go : (i : ℕ) → i < slot_count → Dec (i ≡ free_slot v) → (b : Bool) → live_of v n i ≡ b → live_of x q i ≡ live_of v q i
      go i l (yes z) b p =
          never (live_of x q i) (λ e. let h = live_of_split x q i e in ne (sym h.1 ∙ ap (station x) z ∙ (m.fresh (ap (live x) (sym z) ∙ h.0)).0))
          ∙ sym (ap (live_of v q) z ∙ free_not_live_of v n room q)
      go i l (no z) true p =
          let s = (live_of_split v n i p).1 in
          other_station x q i (λ e. ne (sym e ∙ sym (same_station v x i (m.tail i l p)) ∙ s)) ∙ sym (other_station v q i (λ e. ne (sym e ∙ s)))
      go i l (no z) false p = sym (same_live_of v x q i (m.rest i l z p))

  -- ---- the number itself

  -- the new slot is not live, and all the others are
  old_lives : live x (free_slot v) ≡ false → ((i : ℕ) → i < slot_count → live_of v n i ≡ true → live x i ≡ true) → (i : ℕ) → i < slot_count → live_of x n i ≡ live_of v n i
  old_lives none all i l = go i l (ℕ_discrete i (free_slot v)) (live_of v n i) refl
    where
      go : (i : ℕ) → i < slot_count → Dec (i ≡ free_slot v) → (b : Bool) → live_of v n i ≡ b → live_of x n i ≡ live_of v n i
      go i l (yes z) b p = not_live_of x n i (ap (live x) z ∙ none) ∙ sym (ap (live_of v n) z ∙ free_not_live_of v n room n)
      go i l (no z) true p = live_of_both x n i (all i l p) (sym (same_station v x i (m.tail i l p)) ∙ (live_of_split v n i p).1) ∙ sym p
      go i l (no z) false p = sym (same_live_of v x n i (m.rest i l z p))

  pub midway_old : live x (free_slot v) ≡ false → ((i : ℕ) → i < slot_count → live_of v n i ≡ true → live x i ≡ true) → found x n ≡ found v n
  midway_old none all = found_same v x n (old_lives none all) m.tail

  -- lookup's slot is the new one
  pub midway_new : slot_of x n ≡ free_slot v → found x n ≡ bytes
  midway_new e = found_at x n (free_slot v) e room ∙ (m.fresh (subst (λ (i : ℕ). live x i ≡ true) e (live_of_split x n (slot_of x n) ((slot_is x n).hit below)).0)).1
    where
      below : slot_of x n < slot_count
      below = omega (arith, e)

  -- lookup's slot is another
  pub midway_at : (i : ℕ) → slot_of x n ≡ i → i < slot_count → (i ≡ free_slot v → ⊥) → (live_of v n i ≡ true) × (found x n ≡ bytes_of v i 4 data_size)
  midway_at i e l ne = (before, found_at x n i e l ∙ sym (same_data v x i (m.tail i l before)))
    where
      below : slot_of x n < slot_count
      below = omega (arith, e)

      before : live_of v n i ≡ true
      before = live_before i l ne (subst (λ (k : ℕ). live_of x n k ≡ true) e ((slot_is x n).hit below))

  -- one of its own
  pub midway_own : Turned v n x → OneOfItsOwn v x n bytes
  midway_own (inr t) = own_same v n bytes x (slot_same v x n (old_lives t.0 t.1)) (midway_old t.0 t.1)
  midway_own (inl t) = go (ℕ_discrete (slot_of x n) (free_slot v))
    where
      below : slot_of x n < slot_count
      below = slot_some x n (free_slot v) room (live_of_both x n (free_slot v) t (m.fresh t).0)

      go : Dec (slot_of x n ≡ free_slot v) → OneOfItsOwn v x n bytes
      go (yes z) = its_new below (midway_new z)
      go (no z) = let r = midway_at (slot_of x n) refl below z in its_earlier (slot_of x n) below r.0 below r.1

-- ---- after w writes

module _ (v : Shown) (n : ℕ) (bytes : List ℕ) (room : free_slot v < slot_count) (right : Storable n bytes) (long : length bytes ≡ data_size) (w : ℕ) where
  abbrev after : Shown
  after = after_writes v n bytes w

  after_midway : Midway v n bytes after
  after_midway = midway v n room bytes right long w after (after_underway v n bytes w)

  pub after_others : (q : ℕ) → (q ≡ n → ⊥) → found (after_writes v n bytes w) q ≡ found v q
  after_others q ne = midway_others v n bytes room after after_midway q ne

  -- before the mark is written every lookup is as before
  pub after_before_mark : w < 2 → (q : ℕ) → found (after_writes v n bytes w) q ≡ found v q
  after_before_mark h q = go (ℕ_discrete q n)
    where
      go : Dec (q ≡ n) → found after q ≡ found v q
      go (yes z) =
          subst (λ (k : ℕ). found after k ≡ found v k) (sym z)
          (midway_old v n bytes room after after_midway (unmarked v n room bytes right long w h)
          (others_live v n room bytes right long w after (after_underway v n bytes w) h))
      go (no ne) = after_others q ne

  -- ---- after it: the first of the live slots that are left

  module _ (two : 2 ≤ w) where
    new_live : live_of after n (free_slot v) ≡ true
    unfolding byte_of
    new_live = live_of_both after n (free_slot v) there (after_midway.fresh there).0
      where
        at : (j : ℕ) → j < 2 → (after (free_slot v * 32 + j)).byte ≡ get_or (0x53 ∷ 0x54 ∷ []) j 0
        at j l = ap (λ (c : Cell). c.byte) (after_mark v n bytes w j two l)

        there : live after (free_slot v) ≡ true
        there = marks_live after (free_slot v) (at 0 (omega arith)) (at 1 (omega arith))

    gone : (i : ℕ) → (i ≡ free_slot v → ⊥) → one_of i (cleared_by v n w) ≡ true → live after i ≡ false
    unfolding byte_of
    gone i ne e =
        no_mark after i 0
        (ap (λ (c : Cell). c.byte) (after_other v n bytes w i 0 ne (omega arith) ∙ ap (λ (b : Bool). pick b (known 0x00) (v (i * 32 + 0))) (and_both e (lt-ltb 0 2 (omega arith)))))
        (λ h. omega arith)

    -- a live slot of the number other than the new one is not below the next to be cleared
    next_least : (i : ℕ) → i < slot_count → (i ≡ free_slot v → ⊥) → live_of after n i ≡ true → next_live_lem v n w ≤ i
    next_least i l ne e = go (lives_has v n i l (live_before v n bytes room after after_midway i l ne e))
      where
        go : Place (lives_of v n) slot_count i → next_live_lem v n w ≤ i
        go p = order (ltb p.at (w - 2)) (ltb (w - 2) p.at) refl refl
          where
            order : (a b : Bool) → ltb p.at (w - 2) ≡ a → ltb (w - 2) p.at ≡ b → next_live_lem v n w ≤ i
            order true b f g =
                absurd (true≢false (sym (live_of_split after n i e).0 ∙ gone i ne (take_one_of i (w - 2) (lives_of v n) p.at slot_count (ltb-true p.at (w - 2) f) p.inside p.is)))
            order false true f g =
                let r = those_rise (live_of v n) 0 slot_count (w - 2) p.at slot_count (ltb-true (w - 2) p.at g) p.inside in let s = p.is in omega arith
            order false false f g =
                let a = ltb-false p.at (w - 2) f in
                let b = ltb-false (w - 2) p.at g in
                let z : w - 2 ≡ p.at = omega arith in
                let s : next_live_lem v n w ≡ i = ap (λ (k : ℕ). get_or (lives_of v n) k slot_count) z ∙ p.is in
                omega arith

    -- the next to be cleared is live
    next_live : w - 2 < length (lives_of v n) → live_of after n (next_live_lem v n w) ≡ true
    unfolding SameFrom
    next_live h = sym (same_live_of v after n (next_live_lem v n w) same) ∙ r.1
      where
        r : (next_live_lem v n w < slot_count) × (live_of v n (next_live_lem v n w) ≡ true)
        r = lives_in v n (w - 2) h

        kept : one_of (next_live_lem v n w) (cleared_by v n w) ≡ false
        kept = never (one_of (next_live_lem v n w) (cleared_by v n w)) (λ e. twice (one_of_take (next_live_lem v n w) (w - 2) (lives_of v n) slot_count e))
          where
            twice : Early (lives_of v n) (w - 2) slot_count (next_live_lem v n w) → ⊥
            twice p = let a = those_rise (live_of v n) 0 slot_count p.at (w - 2) slot_count p.early h in let b = p.is in omega arith

        same : (j : ℕ) → 0 ≤ j → j < 32 → v (next_live_lem v n w * 32 + j) ≡ after (next_live_lem v n w * 32 + j)
        same j a b =
            sym (after_same v n bytes w (next_live_lem v n w) j (live_not_free v n room n (next_live_lem v n w) r.1) b
            (and_no_left (one_of (next_live_lem v n w) (cleared_by v n w)) (ltb j 2) kept))

    pub after_itself : found (after_writes v n bytes w) n ≡ pick (ltb (free_slot v) (next_live_lem v n w)) bytes (bytes_of v (next_live_lem v n w) 4 data_size)
    after_itself = go (ltb (free_slot v) (next_live_lem v n w)) refl
      where
        go : (b : Bool) → ltb (free_slot v) (next_live_lem v n w) ≡ b → found after n ≡ pick b bytes (bytes_of v (next_live_lem v n w) 4 data_size)
        go true e =
            let l = ltb-true (free_slot v) (next_live_lem v n w) e in
            midway_new v n bytes room after after_midway (slot_one after n (free_slot v) room new_live (λ y h.
            never (live_of after n y) (λ a. let b = next_least y (omega arith) (λ z. omega arith) a in omega arith)))
        go false e = lower (ltb-false (free_slot v) (next_live_lem v n w) e) (ltb (w - 2) (length (lives_of v n))) refl
          where
            lower : next_live_lem v n w ≤ free_slot v → (b : Bool) → ltb (w - 2) (length (lives_of v n)) ≡ b → found after n ≡ bytes_of v (next_live_lem v n w) 4 data_size
            lower l false f =
                let z : next_live_lem v n w ≡ slot_count = get_or-eq_default (lives_of v n) slot_count {n = w - 2} (ltb-false (w - 2) (length (lives_of v n)) f) in
                absurd (omega arith)
            lower l true f =
                let h = ltb-true (w - 2) (length (lives_of v n)) f in
                let r = lives_in v n (w - 2) h in
                let ne = live_not_free v n room n (next_live_lem v n w) r.1 in
                (midway_at v n bytes room after after_midway (next_live_lem v n w)
                (slot_one after n (next_live_lem v n w) r.0 (next_live h) (λ y k.
                never (live_of after n y) (λ a. let b = next_least y (omega arith) (λ z. below y k l z) a in omega arith)))
                r.0 ne).1
              where
                below : (y : ℕ) → y < next_live_lem v n w → next_live_lem v n w ≤ free_slot v → y ≡ free_slot v → ⊥
                below y k l z = omega arith

  -- all writes done
  pub after_all : 2 + length (lives_of v n) ≤ w → found (after_writes v n bytes w) n ≡ bytes
  after_all h = after_itself two ∙ ap (λ (b : Bool). pick b bytes (bytes_of v (next_live_lem v n w) 4 data_size)) last
    where
      two : 2 ≤ w
      two = omega arith

      last : ltb (free_slot v) (next_live_lem v n w) ≡ true
      last =
          let z : next_live_lem v n w ≡ slot_count = get_or-eq_default (lives_of v n) slot_count {n = w - 2} (omega arith) in
          lt-ltb (free_slot v) (next_live_lem v n w) (omega arith)

  -- one of its own
  pub after_own : OneOfItsOwn v (after_writes v n bytes w) n bytes
  after_own = go (ltb w (2 + length (lives_of v n))) refl
    where
      go : (b : Bool) → ltb w (2 + length (lives_of v n)) ≡ b → OneOfItsOwn v after n bytes
      go true e =
          midway_own v n bytes room after after_midway
          (turned v n room bytes right long w after (after_underway v n bytes w) (ltb-true w (2 + length (lives_of v n)) e))
      go false e =
          let h = ltb-false w (2 + length (lives_of v n)) e in
          its_new (slot_some after n (free_slot v) room (new_live (omega arith))) (after_all h)
