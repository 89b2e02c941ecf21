-- Laws of tests. Assumes nothing.
use Prim.Native.Nat.{ℕ, zero, suc, ◌<◌}
use mathlib.Core.Path.{◌≡◌, refl, sym, ap, ◌∙◌}
use mathlib.Core.Bool.{Bool, true, false, not, ◌&&◌, ◌||◌, beq, true≢false, false≢true}
use mathlib.Core.List.{List, [], ◌∷◌}
use native.Mathlib.Omega.{arith}
use native.Mathlib.Decide.{ℕ_discrete}
use lib.Dec.{eqb}
use lib.ListN.{length, get_or}
use borrow.Author.Tests.{eqb-true}
use Rattle.rules.specs.Words.{one_of, every}

pub and_split : (a b : Bool) → (a && b) ≡ true → (a ≡ true) × (b ≡ true)
and_split true b e = (refl, e)
and_split false b e = absurd (false≢true e)

pub and_both : {a b : Bool} → a ≡ true → b ≡ true → (a && b) ≡ true
and_both p q = rw (p, q)

pub or_split : (a b : Bool) → (a || b) ≡ false → (a ≡ false) × (b ≡ false)
or_split true b e = absurd (true≢false e)
or_split false b e = (refl, e)

pub or_left : (a b : Bool) → a ≡ true → (a || b) ≡ true
or_left true b e = refl
or_left false b e = absurd (false≢true e)

pub or_right : (a b : Bool) → b ≡ true → (a || b) ≡ true
or_right true b e = refl
or_right false b e = e

-- what holds of an alternative's second part holds where the first does not
pub or_none : (a : Bool) → (a || false) ≡ a
or_none true = refl
or_none false = refl

pub or_map : (a b c : Bool) → (a || b) ≡ true → (b ≡ true → c ≡ true) → (a || c) ≡ true
or_map true b c e h = refl
or_map false b c e h = h e

pub not_intro : (a : Bool) → a ≡ false → not a ≡ true
not_intro true e = absurd (true≢false e)
not_intro false e = refl

-- two tests are the same when each follows from the other
pub same_test : (a b : Bool) → (a ≡ true → b ≡ true) → (b ≡ true → a ≡ true) → a ≡ b
same_test true b f g = sym (f refl)
same_test false true f g = absurd (false≢true (g refl))
same_test false false f g = refl

pub same_flag : (a b : Bool) → beq a b ≡ true → a ≡ b
same_flag true true e = refl
same_flag true false e = absurd (false≢true e)
same_flag false true e = absurd (false≢true e)
same_flag false false e = refl

-- a test that cannot hold
pub never : (a : Bool) → (a ≡ true → ⊥) → a ≡ false
never true h = absurd (h refl)
never false h = refl

-- ---- a test at each entry of a list

pub every_intro {ℓ} : {A : Type ℓ} (t : A → Bool) (d : A) (l : List A) → ((n : ℕ) → n < length l → t (get_or l n d) ≡ true) → every t l ≡ true
every_intro t d [] h = refl
every_intro t d (x ∷ xs) h = and_both (h 0 (omega arith)) (every_intro t d xs (λ n below. h (suc n) (omega arith)))

pub every_at {ℓ} : {A : Type ℓ} (t : A → Bool) (d : A) (l : List A) → every t l ≡ true → (n : ℕ) → n < length l → t (get_or l n d) ≡ true
every_at t d [] e n h = absurd (omega arith)
every_at t d (x ∷ xs) e zero h = (and_split (t x) (every t xs) e).0
every_at t d (x ∷ xs) e (suc n) h = every_at t d xs (and_split (t x) (every t xs) e).1 n (omega arith)

-- the test holds at each number of the list
pub every_of : (t : ℕ → Bool) (ns : List ℕ) → every t ns ≡ true → (n : ℕ) → one_of n ns ≡ true → t n ≡ true
every_of t [] e n h = absurd (false≢true h)
every_of t (m ∷ ns) e n h = go (eqb n m) refl h (every_of t ns p.1 n)
  where
    p : (t m ≡ true) × (every t ns ≡ true)
    p = and_split (t m) (every t ns) e

    go : (b : Bool) → eqb n m ≡ b → (b || one_of n ns) ≡ true → (one_of n ns ≡ true → t n ≡ true) → t n ≡ true
    go true q k ih = ap t (eqb-true n m q) ∙ p.0
    go false q k ih = ih k

-- ---- a test at each number below a bound

abbrev pub upto : ℕ → (ℕ → Bool) → Bool
upto zero f = true
upto (suc n) f = f n && upto n f

pub upto_at : (k : ℕ) (f : ℕ → Bool) → upto k f ≡ true → (n : ℕ) → n < k → f n ≡ true
upto_at zero f e n h = absurd (omega arith)
upto_at (suc k) f e n h = go (ℕ_discrete n k) (λ q. upto_at k f p.1 n q)
  where
    p : (f k ≡ true) × (upto k f ≡ true)
    p = and_split (f k) (upto k f) e

    go : Dec (n ≡ k) → (n < k → f n ≡ true) → f n ≡ true
    go (yes q) r = ap f q ∙ p.0
    go (no q) r = r (omega arith)
