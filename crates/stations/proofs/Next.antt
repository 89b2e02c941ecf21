-- One number more: what the tests over numbers are at the next one, as a loop finds them. By their definitions. Assumes nothing.
use Prim.Native.Nat.{ℕ, zero, suc, ◌+◌, ◌-◌, ◌≤◌, ◌<◌}
use mathlib.Core.Path.{◌≡◌, sym, ap, ◌∙◌}
use mathlib.Core.Bool.{Bool, true, false, ◌&&◌, and-false}
use mathlib.Core.List.{[], ◌∷◌}
use native.Mathlib.Omega.{arith}
use native.Mathlib.Decide.{ℕ_discrete}
use lib.Dec.{ltb}
use borrow.Author.Tests.{lt-ltb, le-ltb}
use Rattle.rules.specs.Words.{pick}
use Rattle.stations.specs.Slots.{all_below, first_from, those_from}

one_more : (n : ℕ) → suc n ≡ n + 1
one_more n = omega arith

left : (n i : ℕ) → i < n → n - i ≡ suc (n - (i + 1))
left n i h = omega arith

pub first_next : (t : ℕ → Bool) (n i : ℕ) → i < n → first_from t i (n - i) ≡ pick (t i) i (first_from t (i + 1) (n - (i + 1)))
unfolding first_from
first_next t n i h =
    ap (first_from t i) (left n i h) ∙ ap (λ (k : ℕ). pick (t i) i (first_from t k (n - (i + 1)))) (one_more i)

pub first_hit : (t : ℕ → Bool) (n i : ℕ) → i < n → t i ≡ true → first_from t i (n - i) ≡ i
first_hit t n i h e = first_next t n i h ∙ ap (λ (b : Bool). pick b i (first_from t (i + 1) (n - (i + 1)))) e

pub first_miss : (t : ℕ → Bool) (n i : ℕ) → i < n → t i ≡ false → first_from t i (n - i) ≡ first_from t (i + 1) (n - (i + 1))
first_miss t n i h e = first_next t n i h ∙ ap (λ (b : Bool). pick b i (first_from t (i + 1) (n - (i + 1)))) e

pub first_end : (t : ℕ → Bool) (n i : ℕ) → i ≡ n → first_from t i (n - i) ≡ n
unfolding first_from
first_end t n i e = let z : n - i ≡ 0 = omega arith in ap (first_from t i) z ∙ e

-- those from i on are the first of them and those behind it
those_first_of : (t : ℕ → Bool) (k i : ℕ)
    → let r = first_from t i k in those_from t i k ≡ pick (ltb r (i + k)) (r ∷ those_from t (r + 1) (i + k - (r + 1))) []
unfolding first_from those_from
those_first_of t zero i = sym (ap (λ (b : Bool). pick b (i ∷ those_from t (i + 1) (i + 0 - (i + 1))) []) (le-ltb i (i + 0) (omega arith)))
those_first_of t (suc k) i = go (t i) (those_first_of t k (suc i))
  where
    up : suc i + k ≡ i + suc k
    up = omega arith

    rest : i + suc k - (i + 1) ≡ k
    rest = omega arith

    go : (b : Bool)
        → (let r = first_from t (suc i) k in those_from t (suc i) k ≡ pick (ltb r (suc i + k)) (r ∷ those_from t (r + 1) (suc i + k - (r + 1))) [])
        → pick b (i ∷ those_from t (suc i) k) (those_from t (suc i) k) ≡ (let r = pick b i (first_from t (suc i) k) in pick (ltb r (i + suc k)) (r ∷ those_from t (r + 1) (i + suc k - (r + 1))) [])
    go true e =
        sym (ap (λ (b : Bool). pick b (i ∷ those_from t (i + 1) (i + suc k - (i + 1))) []) (lt-ltb i (i + suc k) (omega arith))
        ∙ (λ j. i ∷ those_from t (sym (one_more i) j) (rest j)))
    go false e =
        e ∙ ap (λ (x : ℕ). let r = first_from t (suc i) k in pick (ltb r x) (r ∷ those_from t (r + 1) (x - (r + 1))) []) up

pub those_first : (t : ℕ → Bool) (n i : ℕ) → i ≤ n
    → let r = first_from t i (n - i) in those_from t i (n - i) ≡ pick (ltb r n) (r ∷ those_from t (r + 1) (n - (r + 1))) []
those_first t n i h =
    let e : i + (n - i) ≡ n = omega arith in
    those_first_of t (n - i) i ∙ ap (λ (x : ℕ). let r = first_from t i (n - i) in pick (ltb r x) (r ∷ those_from t (r + 1) (x - (r + 1))) []) e

-- all of them hold so far, and this one too; or this one does not, and so not all of more
pub all_next : (t : ℕ → Bool) (i : ℕ) → all_below i t ≡ true → t i ≡ true → all_below (i + 1) t ≡ true
unfolding all_below
all_next t i a b = ap (λ (k : ℕ). all_below k t) (sym (one_more i)) ∙ (λ j. a j && b j)

pub all_not : (t : ℕ → Bool) (n i : ℕ) → i < n → t i ≡ false → all_below n t ≡ false
unfolding all_below
all_not t zero i h e = absurd (omega arith)
all_not t (suc n) i h e = go (ℕ_discrete i n) (λ l. all_not t n i l e)
  where
    go : Dec (i ≡ n) → (i < n → all_below n t ≡ false) → (all_below n t && t n) ≡ false
    go (yes p) f = ap (λ (b : Bool). all_below n t && b) (sym (ap t p) ∙ e) ∙ and-false (all_below n t)
    go (no q) f = ap (λ (b : Bool). b && t n) (f (omega arith))
