-- The first number at which a test holds, and all of them, lowest first: by induction on the count, each is what its name says; tests that agree on the range give the same. Assumes nothing.
use Prim.Native.Nat.{ℕ, zero, suc, ◌+◌, ◌≤◌, ◌<◌}
use mathlib.Core.Path.{◌≡◌, refl, sym, ap, ap₂, ◌∙◌}
use mathlib.Core.Bool.{Bool, true, false, ◌&&◌, ◌||◌, true≢false, false≢true}
use mathlib.Core.List.{List, [], ◌∷◌}
use native.Mathlib.Omega.{arith}
use native.Mathlib.Decide.{ℕ_discrete}
use lib.Dec.{eqb, ltb}
use lib.ListN.{length, get_or, take, length-take}
use lib.Seq.{get_or-take}
use borrow.Author.Tests.{ltb-true, ltb-false, eqb-true, eq-eqb}
use Rattle.rules.specs.Words.{pick, one_of}
use Rattle.rules.proofs.Bools.{and_split, and_both, or_split, or_left, or_right}
use Rattle.stations.specs.Slots.{all_below, some_below, first_from, those_from}

-- ---- the first

pub record FirstIs (t : ℕ → Bool) (i n x : ℕ) : Type 0 where
  pub from : i ≤ x
  pub to : x ≤ i + n
  pub hit : x < i + n → t x ≡ true
  pub below : (y : ℕ) → i ≤ y → y < x → t y ≡ false

pub first_is : (t : ℕ → Bool) (i n : ℕ) → FirstIs t i n (first_from t i n)
unfolding first_from
first_is t i zero = record { from = omega arith; to = omega arith; hit = λ h. absurd (omega arith); below = λ y a b. absurd (omega arith) }
first_is t i (suc n) = go (t i) refl (first_is t (suc i) n)
  where
    at : (y : ℕ) → t i ≡ false → i ≤ y → Dec (y ≡ i) → (suc i ≤ y → t y ≡ false) → t y ≡ false
    at y e a (yes p) f = ap t p ∙ e
    at y e a (no q) f = f (omega arith)

    go : (b : Bool) → t i ≡ b → FirstIs t (suc i) n (first_from t (suc i) n) → FirstIs t i (suc n) (pick b i (first_from t (suc i) n))
    go true e r = record { from = omega arith; to = omega arith; hit = λ h. e; below = λ y a b. absurd (omega arith) }
    go false e r =
        let f = r.from in
        let g = r.to in
        record {
          from = omega arith;
          to = omega arith;
          hit = λ h. r.hit (omega arith);
          below = λ y a b. at y e a (ℕ_discrete y i) (λ above. r.below y above b);
        }

-- the first is the only one with none below it
pub first_one : (t : ℕ → Bool) (n x : ℕ) → x < n → t x ≡ true → ((y : ℕ) → y < x → t y ≡ false) → first_from t 0 n ≡ x
first_one t n x h e none = go (first_from t 0 n) (first_is t 0 n) (ltb (first_from t 0 n) x) (ltb x (first_from t 0 n)) refl refl
  where
    go : (f : ℕ) → FirstIs t 0 n f → (a b : Bool) → ltb f x ≡ a → ltb x f ≡ b → f ≡ x
    go f r true b p q = let l = ltb-true f x p in absurd (true≢false (sym (r.hit (omega arith)) ∙ none f l))
    go f r false true p q = absurd (true≢false (sym e ∙ r.below x (omega arith) (ltb-true x f q)))
    go f r false false p q = let k = ltb-false f x p in let l = ltb-false x f q in omega arith

-- a test that holds somewhere holds first somewhere
pub first_some : (t : ℕ → Bool) (n x : ℕ) → x < n → t x ≡ true → first_from t 0 n < n
first_some t n x h e = go (first_from t 0 n) (first_is t 0 n) (ltb (first_from t 0 n) n) refl
  where
    go : (f : ℕ) → FirstIs t 0 n f → (a : Bool) → ltb f n ≡ a → f < n
    go f r true p = ltb-true f n p
    go f r false p = let k = ltb-false f n p in absurd (true≢false (sym e ∙ r.below x (omega arith) (omega arith)))

pub first_none : (t : ℕ → Bool) (i n : ℕ) → ((y : ℕ) → i ≤ y → y < i + n → t y ≡ false) → first_from t i n ≡ i + n
first_none t i n none = go (first_from t i n) (first_is t i n) (ltb (first_from t i n) (i + n)) refl
  where
    go : (f : ℕ) → FirstIs t i n f → (a : Bool) → ltb f (i + n) ≡ a → f ≡ i + n
    go f r true p = let l = ltb-true f (i + n) p in absurd (true≢false (sym (r.hit l) ∙ none f r.from l))
    go f r false p = let l = ltb-false f (i + n) p in let h = r.to in omega arith

pub first_same : (t u : ℕ → Bool) (i n : ℕ) → ((y : ℕ) → i ≤ y → y < i + n → t y ≡ u y) → first_from t i n ≡ first_from u i n
unfolding first_from
first_same t u i zero h = refl
first_same t u i (suc n) h =
    ap₂ (λ (b : Bool) (x : ℕ). pick b i x) (h i (omega arith) (omega arith)) (first_same t u (suc i) n (λ y a b. h y (omega arith) (omega arith)))

-- ---- all of them

-- x is one of the n numbers from i on, and the test holds there
pub record Hit (t : ℕ → Bool) (i n x : ℕ) : Type 0 where
  pub from : i ≤ x
  pub to : x < i + n
  pub hit : t x ≡ true

hit_down : {t : ℕ → Bool} {i n x : ℕ} → Hit t (suc i) n x → Hit t i (suc n) x
hit_down r = let a = r.from in let b = r.to in record { from = omega arith; to = omega arith; hit = r.hit }

-- each entry is a hit
pub those_in : (t : ℕ → Bool) (i n k d : ℕ) → k < length (those_from t i n) → Hit t i n (get_or (those_from t i n) k d)
unfolding those_from
those_in t i zero k d h = absurd (omega arith)
those_in t i (suc n) k d h = go (t i) refl k h (λ j l. those_in t (suc i) n j d l)
  where
    go : (b : Bool) → t i ≡ b → (k : ℕ) → k < length (pick b (i ∷ those_from t (suc i) n) (those_from t (suc i) n))
        → ((j : ℕ) → j < length (those_from t (suc i) n) → Hit t (suc i) n (get_or (those_from t (suc i) n) j d))
        → Hit t i (suc n) (get_or (pick b (i ∷ those_from t (suc i) n) (those_from t (suc i) n)) k d)
    go true e zero h f = record { from = omega arith; to = omega arith; hit = e }
    go true e (suc k) h f = hit_down (f k (omega arith))
    go false e k h f = hit_down (f k h)

-- the place of a number in a list
pub record Place (l : List ℕ) (d x : ℕ) : Type 0 where
  pub at : ℕ
  pub inside : at < length l
  pub is : get_or l at d ≡ x

-- each hit is an entry
pub those_has : (t : ℕ → Bool) (i n d x : ℕ) → Hit t i n x → Place (those_from t i n) d x
unfolding those_from
those_has t i zero d x h = let a = h.from in let b = h.to in absurd (omega arith)
those_has t i (suc n) d x h = go (t i) refl (ℕ_discrete x i) (λ k. those_has t (suc i) n d x k)
  where
    up : (x ≡ i → ⊥) → Hit t (suc i) n x
    up ne = let a = h.from in let b = h.to in record { from = omega arith; to = omega arith; hit = h.hit }

    go : (b : Bool) → t i ≡ b → Dec (x ≡ i) → (Hit t (suc i) n x → Place (those_from t (suc i) n) d x)
        → Place (pick b (i ∷ those_from t (suc i) n) (those_from t (suc i) n)) d x
    go true e (yes q) f = record { at = 0; inside = omega arith; is = sym q }
    go true e (no q) f = let r = f (up q) in let l = r.inside in record { at = suc r.at; inside = omega arith; is = r.is }
    go false e (yes q) f = absurd (true≢false (sym h.hit ∙ ap t q ∙ e))
    go false e (no q) f = f (up q)

-- they rise, and so none is there twice
pub those_rise : (t : ℕ → Bool) (i n j k d : ℕ) → j < k → k < length (those_from t i n) → get_or (those_from t i n) j d < get_or (those_from t i n) k d
unfolding those_from
those_rise t i zero j k d a h = absurd (omega arith)
those_rise t i (suc n) j k d a h = go (t i) j k a h (λ j k. those_rise t (suc i) n j k d)
  where
    go : (b : Bool) (j k : ℕ) → j < k → k < length (pick b (i ∷ those_from t (suc i) n) (those_from t (suc i) n))
        → ((j k : ℕ) → j < k → k < length (those_from t (suc i) n) → get_or (those_from t (suc i) n) j d < get_or (those_from t (suc i) n) k d)
        → get_or (pick b (i ∷ those_from t (suc i) n) (those_from t (suc i) n)) j d < get_or (pick b (i ∷ those_from t (suc i) n) (those_from t (suc i) n)) k d
    go true j zero a h f = absurd (omega arith)
    go true zero (suc k) a h f = (those_in t (suc i) n k d (omega arith)).from
    go true (suc j) (suc k) a h f = f j k (omega arith) (omega arith)
    go false j k a h f = f j k a h

pub those_same : (t u : ℕ → Bool) (i n : ℕ) → ((y : ℕ) → i ≤ y → y < i + n → t y ≡ u y) → those_from t i n ≡ those_from u i n
unfolding those_from
those_same t u i zero h = refl
those_same t u i (suc n) h =
    ap₂ (λ (b : Bool) (l : List ℕ). pick b (i ∷ l) l) (h i (omega arith) (omega arith)) (those_same t u (suc i) n (λ y a b. h y (omega arith) (omega arith)))

pub those_hit : (t : ℕ → Bool) (i n : ℕ) → t i ≡ true → those_from t i (suc n) ≡ i ∷ those_from t (suc i) n
unfolding those_from
those_hit t i n e = ap (λ (b : Bool). pick b (i ∷ those_from t (suc i) n) (those_from t (suc i) n)) e

pub those_miss : (t : ℕ → Bool) (i n : ℕ) → t i ≡ false → those_from t i (suc n) ≡ those_from t (suc i) n
unfolding those_from
those_miss t i n e = ap (λ (b : Bool). pick b (i ∷ those_from t (suc i) n) (those_from t (suc i) n)) e

pub those_none : (t : ℕ → Bool) (i n : ℕ) → ((y : ℕ) → i ≤ y → y < i + n → t y ≡ false) → those_from t i n ≡ []
unfolding those_from
those_none t i zero h = refl
those_none t i (suc n) h =
    ap₂ (λ (b : Bool) (l : List ℕ). pick b (i ∷ l) l) (h i (omega arith) (omega arith)) (those_none t (suc i) n (λ y a b. h y (omega arith) (omega arith)))

-- ---- membership by places

pub one_of_place : (x : ℕ) (l : List ℕ) (d : ℕ) → one_of x l ≡ true → Place l d x
one_of_place x [] d e = absurd (false≢true e)
one_of_place x (y ∷ ys) d e = go (eqb x y) refl e (one_of_place x ys d)
  where
    go : (b : Bool) → eqb x y ≡ b → (b || one_of x ys) ≡ true → (one_of x ys ≡ true → Place ys d x) → Place (y ∷ ys) d x
    go true p q f = record { at = 0; inside = omega arith; is = sym (eqb-true x y p) }
    go false p q f = let r = f q in let l = r.inside in record { at = suc r.at; inside = omega arith; is = r.is }

pub place_one_of : (x : ℕ) (l : List ℕ) (k d : ℕ) → k < length l → get_or l k d ≡ x → one_of x l ≡ true
place_one_of x [] k d h e = absurd (omega arith)
place_one_of x (y ∷ ys) zero d h e = or_left (eqb x y) (one_of x ys) (eq-eqb x y (sym e))
place_one_of x (y ∷ ys) (suc k) d h e = or_right (eqb x y) (one_of x ys) (place_one_of x ys k d (omega arith) e)

-- one of the first m entries
pub record Early (l : List ℕ) (m d x : ℕ) : Type 0 where
  pub at : ℕ
  pub early : at < m
  pub inside : at < length l
  pub is : get_or l at d ≡ x

pub one_of_take : (x : ℕ) (m : ℕ) (l : List ℕ) (d : ℕ) → one_of x (take m l) ≡ true → Early l m d x
one_of_take x m l d e = go (one_of_place x (take m l) d e)
  where
    go : Place (take m l) d x → Early l m d x
    go r =
        let k = r.at in
        let a = r.inside in
        let b = length-take m l in
        let h : k < m = omega arith in
        record { at = k; early = h; inside = omega arith; is = sym (get_or-take m l k d h) ∙ r.is }

pub take_one_of : (x : ℕ) (m : ℕ) (l : List ℕ) (k d : ℕ) → k < m → k < length l → get_or l k d ≡ x → one_of x (take m l) ≡ true
take_one_of x m l k d a b e = let c = length-take m l in place_one_of x (take m l) k d (omega arith) (get_or-take m l k d a ∙ e)

-- ---- each number below n, some number below n

pub all_at : (n : ℕ) (t : ℕ → Bool) → all_below n t ≡ true → (j : ℕ) → j < n → t j ≡ true
unfolding all_below
all_at zero t e j h = absurd (omega arith)
all_at (suc n) t e j h = go (ℕ_discrete j n) (λ l. all_at n t (and_split (all_below n t) (t n) e).0 j l)
  where
    go : Dec (j ≡ n) → (j < n → t j ≡ true) → t j ≡ true
    go (yes p) f = ap t p ∙ (and_split (all_below n t) (t n) e).1
    go (no q) f = f (omega arith)

pub all_intro : (n : ℕ) (t : ℕ → Bool) → ((j : ℕ) → j < n → t j ≡ true) → all_below n t ≡ true
unfolding all_below
all_intro zero t h = refl
all_intro (suc n) t h = and_both (all_intro n t (λ j l. h j (omega arith))) (h n (omega arith))

pub all_same : (n : ℕ) (t u : ℕ → Bool) → ((j : ℕ) → j < n → t j ≡ u j) → all_below n t ≡ all_below n u
unfolding all_below
all_same zero t u h = refl
all_same (suc n) t u h = ap₂ (λ (a b : Bool). a && b) (all_same n t u (λ j l. h j (omega arith))) (h n (omega arith))

pub some_none : (n : ℕ) (t : ℕ → Bool) → some_below n t ≡ false → (y : ℕ) → y < n → t y ≡ false
unfolding some_below
some_none zero t e y h = absurd (omega arith)
some_none (suc n) t e y h = go (ℕ_discrete y n) (λ l. some_none n t (or_split (some_below n t) (t n) e).0 y l)
  where
    go : Dec (y ≡ n) → (y < n → t y ≡ false) → t y ≡ false
    go (yes p) f = ap t p ∙ (or_split (some_below n t) (t n) e).1
    go (no q) f = f (omega arith)

pub some_at : (n : ℕ) (t : ℕ → Bool) (y : ℕ) → y < n → t y ≡ true → some_below n t ≡ true
unfolding some_below
some_at zero t y h e = absurd (omega arith)
some_at (suc n) t y h e = go (ℕ_discrete y n) (λ l. some_at n t y l e)
  where
    go : Dec (y ≡ n) → (y < n → some_below n t ≡ true) → (some_below n t || t n) ≡ true
    go (yes p) f = or_right (some_below n t) (t n) (sym (ap t p) ∙ e)
    go (no q) f = or_left (some_below n t) (t n) (f (omega arith))

pub some_same : (n : ℕ) (t u : ℕ → Bool) → ((j : ℕ) → j < n → t j ≡ u j) → some_below n t ≡ some_below n u
unfolding some_below
some_same zero t u h = refl
some_same (suc n) t u h = ap₂ (λ (a b : Bool). a || b) (some_same n t u (λ j l. h j (omega arith))) (h n (omega arith))

pub some_one : (n : ℕ) (t : ℕ → Bool) → some_below n t ≡ true → (y : ℕ) × (y < n) × (t y ≡ true)
unfolding some_below
some_one zero t e = absurd (false≢true e)
some_one (suc n) t e = go (some_below n t) refl e (some_one n t)
  where
    go : (b : Bool) → some_below n t ≡ b → (b || t n) ≡ true → (some_below n t ≡ true → (y : ℕ) × (y < n) × (t y ≡ true)) → (y : ℕ) × (y < suc n) × (t y ≡ true)
    go true p q f = let r = f p in let l = r.1 in (r.0, omega arith, r.2)
    go false p q f = (n, omega arith, q)
