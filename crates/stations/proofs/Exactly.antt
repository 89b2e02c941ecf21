-- What the paper's words of the slots mean: the first at which a test holds, and all at which it does, lowest first, are what their names say. Assumes nothing.
use Prim.Native.Nat.{ℕ, ◌+◌, ◌<◌}
use mathlib.Core.Path.{◌≡◌, ◌∙◌, subst}
use mathlib.Core.Bool.{Bool, true, false}
use mathlib.Core.Logic.{◌↔◌}
use native.Mathlib.Omega.{arith}
use Rattle.rules.specs.Words.{one_of}
use Rattle.stations.specs.Slots.{slot_count, first_from, those_from, empty, live_of, slot_of, free_slot}
use Rattle.stations.specs.Given.{SlotsGiven}
use Rattle.stations.proofs.First.{first_is, first_none, those_in, Place, those_has, those_rise, one_of_place, place_one_of}

module _ (t : ℕ → Bool) (n : ℕ) where
  none_exactly : (first_from t 0 n ≡ n) ↔ ((i : ℕ) → i < n → t i ≡ false)
  none_exactly = (λ e i h. (first_is t 0 n).below i (omega arith) (omega (arith, e)), λ h. let z : 0 + n ≡ n = omega arith in first_none t 0 n (λ y a b. h y (omega arith)) ∙ z)

  first_exactly : first_from t 0 n < n → (t (first_from t 0 n) ≡ true) × ((i : ℕ) → i < first_from t 0 n → t i ≡ false)
  first_exactly h = let r = first_is t 0 n in (r.hit (omega arith), λ i l. r.below i (omega arith) l)

  each_exactly : (i : ℕ) → (one_of i (those_from t 0 n) ≡ true) ↔ ((i < n) × (t i ≡ true))
  each_exactly i = (there, λ h. back (those_has t 0 n 0 i (record { from = omega arith; to = omega arith; hit = h.1 })))
    where
      there : one_of i (those_from t 0 n) ≡ true → (i < n) × (t i ≡ true)
      there e =
          let p = one_of_place i (those_from t 0 n) 0 e in
          let h = those_in t 0 n p.at 0 p.inside in
          let b = h.to in
          subst (λ (y : ℕ). (y < n) × (t y ≡ true)) p.is (omega arith, h.hit)

      back : Place (those_from t 0 n) 0 i → one_of i (those_from t 0 n) ≡ true
      back p = place_one_of i (those_from t 0 n) p.at 0 p.inside p.is

pub slots_given : SlotsGiven
unfolding free_slot slot_of
slots_given v n =
    record {
      no_empty = none_exactly (empty v) slot_count;
      first_empty = first_exactly (empty v) slot_count;
      no_live = none_exactly (live_of v n) slot_count;
      first_live = first_exactly (live_of v n) slot_count;
      each_live = each_exactly (live_of v n) slot_count;
      lowest_first = λ j k. those_rise (live_of v n) 0 slot_count j k 0;
    }
