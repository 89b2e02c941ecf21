-- What lookup gives of the station itself is one of its own: the same on lists that agree; never nothing where it had a live slot; old or new where it had at most one. Assumes nothing.
use Prim.Native.Nat.{ℕ, ◌≤◌, ◌<◌}
use mathlib.Core.Path.{◌≡◌, refl, sym, ap, ◌∙◌}
use mathlib.Core.Bool.{Bool, true, false}
use mathlib.Core.List.{List}
use mathlib.Core.Logic.{◌⊎◌, inl, inr}
use native.Mathlib.Omega.{arith}
use lib.Dec.{ltb}
use lib.ListN.{length, get_or}
use borrow.Author.Tests.{ltb-true, ltb-false}
use Rattle.stations.specs.Slots.{Shown, slot_count, live_of, slot_of, found}
use Rattle.stations.specs.Keeping.{OneOfItsOwn, its_new, its_earlier, still_none}
use Rattle.stations.proofs.Same.{slot_is, slot_some, found_at, found_none, alike_slot_of, alike_found}
use Rattle.stations.proofs.Midway.{lives_of, lives_has}

module _ (v : Shown) (n : ℕ) (bytes : List ℕ) where
  -- lookup gives what it gave
  pub own_same : (x : Shown) → slot_of x n ≡ slot_of v n → found x n ≡ found v n → OneOfItsOwn v x n bytes
  own_same x slots e = go (ltb (slot_of v n) slot_count) refl
    where
      go : (b : Bool) → ltb (slot_of v n) slot_count ≡ b → OneOfItsOwn v x n bytes
      go true f = let l = ltb-true (slot_of v n) slot_count f in its_earlier (slot_of v n) l ((slot_is v n).hit l) (omega arith) (e ∙ found_at v n (slot_of v n) refl l)
      go false f = let l = ltb-false (slot_of v n) slot_count f in let h = (slot_is v n).to in let z : slot_of v n ≡ slot_count = omega arith in still_none z (slots ∙ z)

  -- the list y shows what x does
  pub own_alike : (x y : Shown) → ((p : ℕ) → p < 65536 → x p ≡ y p) → OneOfItsOwn v x n bytes → OneOfItsOwn v y n bytes
  own_alike x y h (its_new l e) = let z = alike_slot_of x y n h in its_new (omega arith) (alike_found x y n h ∙ e)
  own_alike x y h (its_earlier i l live m e) = let z = alike_slot_of x y n h in its_earlier i l live (omega arith) (alike_found x y n h ∙ e)
  own_alike x y h (still_none a b) = still_none a (alike_slot_of x y n h ∙ b)

  pub own_kept : (x : Shown) → OneOfItsOwn v x n bytes → slot_of v n < slot_count → slot_of x n < slot_count
  own_kept x (its_new l e) h = l
  own_kept x (its_earlier i l live m e) h = m
  own_kept x (still_none a b) h = absurd (omega arith)

  -- with at most one live slot
  only_one : length (lives_of v n) ≤ 1 → (i k : ℕ) → i < slot_count → k < slot_count → live_of v n i ≡ true → live_of v n k ≡ true → i ≡ k
  only_one few i k a b e f =
      let p = lives_has v n i a e in
      let q = lives_has v n k b f in
      let c = p.inside in
      let d = q.inside in
      let z : p.at ≡ q.at = omega arith in
      sym p.is ∙ ap (λ (y : ℕ). get_or (lives_of v n) y slot_count) z ∙ q.is

  pub own_either : (x : Shown) → OneOfItsOwn v x n bytes → length (lives_of v n) ≤ 1 → (found x n ≡ found v n) ⊎ (found x n ≡ bytes)
  own_either x (its_new l e) few = inr e
  own_either x (its_earlier i l live m e) few =
      let k = slot_some v n i l live in inl (e ∙ sym (found_at v n i (only_one few (slot_of v n) i k l ((slot_is v n).hit k) live) l))
  own_either x (still_none a b) few = inl (found_none x n (omega arith) ∙ sym (found_none v n (omega arith)))
