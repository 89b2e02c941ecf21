-- A number's place in a list. Assumes nothing.
use Prim.Native.Nat.{ℕ, suc, ◌+◌, ◌≤◌, ◌<◌}
use mathlib.Core.Path.{◌≡◌, refl, sym, ap, ◌∙◌}
use mathlib.Core.Bool.{Bool, true, false}
use native.Mathlib.Omega.{arith}
use mathlib.Core.List.{List, [], ◌∷◌}
use native.Mathlib.Numerals.{add-one}
use lib.ListN.{length, get_or, drop, drop_of_length-le}
use lib.Seq.{drop-cons}
use lib.Dec.{eqb}
use borrow.Author.Tests.{eq-eqb, ne_eqb}
use Rattle.rules.specs.Words.{pick}
use Rattle.describing.specs.Commands.{place_of}
use Rattle.writing.proofs.Picks.{yes, no}

place_at : (t : List ℕ) (o i : ℕ) → i < length t → place_of (drop i t) o ≡ pick (eqb o (get_or t i 0)) 0 (suc (place_of (drop (suc i) t) o))
unfolding place_of
place_at t o i h = ap (λ (l : List ℕ). place_of l o) (drop-cons t i 0 h)

pub place_here : (t : List ℕ) (o i : ℕ) → i < length t → o ≡ get_or t i 0 → i + place_of (drop i t) o ≡ i
place_here t o i h e =
    let z : place_of (drop i t) o ≡ 0 = place_at t o i h ∙ sym (yes _ _ (eq-eqb _ _ e) refl) in
    omega arith

pub place_later : (t : List ℕ) (o i : ℕ) → i < length t → (o ≡ get_or t i 0 → ⊥) → i + place_of (drop i t) o ≡ i + 1 + place_of (drop (i + 1) t) o
place_later t o i h e =
    let z : place_of (drop i t) o ≡ suc (place_of (drop (suc i) t) o) = place_at t o i h ∙ sym (no _ _ (ne_eqb _ _ e) refl) in
    let k = ap (λ (n : ℕ). place_of (drop n t) o) (add-one i) in
    omega arith

pub place_none : (t : List ℕ) (o i : ℕ) → length t ≤ i → i + place_of (drop i t) o ≡ i
unfolding place_of
place_none t o i h =
    let z : place_of (drop i t) o ≡ 0 = ap (λ (l : List ℕ). place_of l o) (drop_of_length-le t {i = i} h) in
    omega arith

-- it is at most the list's size
pub place_within : (t : List ℕ) (o : ℕ) → place_of t o ≤ length t
unfolding place_of
place_within [] o = omega arith
place_within (x ∷ t) o = go (eqb o x) refl (place_within t o)
  where
    go : (b : Bool) → eqb o x ≡ b → place_of t o ≤ length t → place_of (x ∷ t) o ≤ suc (length t)
    go true e h = rw e (omega arith)
    go false e h = rw e (omega arith)
