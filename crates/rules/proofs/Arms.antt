-- A `match` on numbers. An arm's keys are a test of a list; the arm that none of the keys takes finds no key of a list that they hold. Assumes
-- nothing.
use Prim.Native.Nat.{ℕ}
use mathlib.Core.Path.{◌≡◌, refl, ◌∙◌}
use mathlib.Core.Bool.{Bool, true, false, ◌||◌, false≢true}
use mathlib.Core.List.{List, [], ◌∷◌}
use mathlib.Core.Logic.{◌⊎◌, inl, inr}
use lib.Dec.{eqb}
use borrow.Author.Tests.{eqb-true, eq-eqb}
use types.Run.{OneOf}
use Rattle.rules.specs.Words.{one_of, every}
use Rattle.rules.proofs.Bools.{or_left, or_right, same_test, never, every_of}

one_of_lem : (k : ℕ) (ks : List ℕ) (x : ℕ) → OneOf (k ∷ ks) x → one_of x (k ∷ ks) ≡ true
one_of_lem k [] x h = or_left (eqb x k) false (eq-eqb x k h)
one_of_lem k (n ∷ ns) x (inl h) = or_left (eqb x k) (one_of x (n ∷ ns)) (eq-eqb x k h)
one_of_lem k (n ∷ ns) x (inr h) = or_right (eqb x k) (one_of x (n ∷ ns)) (one_of_lem n ns x h)

back : (k : ℕ) (ks : List ℕ) (x : ℕ) → one_of x (k ∷ ks) ≡ true → OneOf (k ∷ ks) x
back k [] x e = go (eqb x k) refl e
  where
    go : (b : Bool) → eqb x k ≡ b → (b || false) ≡ true → x ≡ k
    go true q r = eqb-true x k q
    go false q r = eqb-true x k (q ∙ r)
back k (n ∷ ns) x e = go (eqb x k) refl e (back n ns x)
  where
    go : (b : Bool) → eqb x k ≡ b → (b || one_of x (n ∷ ns)) ≡ true → (one_of x (n ∷ ns) ≡ true → OneOf (n ∷ ns) x) → (x ≡ k) ⊎ OneOf (n ∷ ns) x
    go true q r ih = inl (eqb-true x k q)
    go false q r ih = inr (ih r)

-- keys that a list holds, in whatever order
pub one_in : (k : ℕ) (ks ns : List ℕ) (x : ℕ) → every (λ k. one_of k ns) (k ∷ ks) ≡ true → OneOf (k ∷ ks) x → one_of x ns ≡ true
one_in k ks ns x e h = every_of (λ k. one_of k ns) (k ∷ ks) e x (one_of_lem k ks x h)

-- keys that hold a list
pub none_in : (k : ℕ) (ks ns : List ℕ) (x : ℕ) → every (λ n. one_of n (k ∷ ks)) ns ≡ true → (OneOf (k ∷ ks) x → ⊥) → one_of x ns ≡ false
none_in k ks ns x e h = never (one_of x ns) (λ t. h (back k ks x (every_of (λ n. one_of n (k ∷ ks)) ns e x t)))

-- a list in two parts
pub in_parts : (ns ms ks : List ℕ) (x : ℕ) → every (λ k. one_of k ns || one_of k ms) ks ≡ true → every (λ n. one_of n ks) ns ≡ true → every (λ m. one_of m ks) ms ≡ true
    → (one_of x ns || one_of x ms) ≡ one_of x ks
in_parts ns ms ks x e f g = same_test _ _ (from (one_of x ns) refl) (every_of (λ k. one_of k ns || one_of k ms) ks e x)
  where
    from : (b : Bool) → one_of x ns ≡ b → (b || one_of x ms) ≡ true → one_of x ks ≡ true
    from true t h = every_of (λ n. one_of n ks) ns f x t
    from false t h = every_of (λ m. one_of m ks) ms g x h

-- x is none of the keys, the last arm's first
abbrev pub Passed : ℕ → List ℕ → Type 0
Passed x [] = Unit {0}
Passed x (k ∷ ks) = Passed x ks × (OneOf (k ∷ []) x → ⊥)

-- and none that the list of keys holds
pub passed_key : (x k : ℕ) (ks : List ℕ) → Passed x ks → one_of k ks ≡ true → x ≡ k → ⊥
passed_key x k [] p t e = absurd (false≢true t)
passed_key x k (n ∷ ks) p t e = go (eqb k n) refl t (λ u. passed_key x k ks p.0 u e)
  where
    go : (b : Bool) → eqb k n ≡ b → (b || one_of k ks) ≡ true → (one_of k ks ≡ true → ⊥) → ⊥
    go true q u later = p.1 (e ∙ eqb-true k n q)
    go false q u later = later u

pub none_passed : (x : ℕ) (ks ns : List ℕ) → every (λ n. one_of n ks) ns ≡ true → Passed x ks → one_of x ns ≡ false
none_passed x ks ns e p = never (one_of x ns) (λ t. passed_key x x ks p (every_of (λ n. one_of n ks) ns e x t) refl)
