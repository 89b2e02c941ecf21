-- Parts of a list, and pieces in a row. Assumes nothing.
use Prim.Native.Nat.{ℕ, zero, suc, ◌+◌, ◌*◌, ◌-◌, ◌≤◌, ◌<◌}
use mathlib.Core.Path.{◌≡◌, refl, sym, ap, ◌∙◌}
use mathlib.Core.Bool.{Bool, true}
use mathlib.Core.List.{List, [], ◌∷◌, ◌++◌}
use native.Mathlib.Omega.{arith}
use native.Mathlib.Decide.{ℕ_discrete}
use native.Mathlib.Nat.{mul-le-mul_right}
use lib.ListN.{length, take, drop, length-append, length-drop}
use lib.Seq.{take-add, take-take, drop-drop, drop_at, take-append-le, drop-append-le, take_all, take-nil, length-take-le}
use Rattle.rules.proofs.Bools.{and_split, and_both}
use Rattle.image.specs.Form.{joined}
use Rattle.image.specs.Files.{part, first_hold}

-- ---- parts

pub drop_take : (i n : ℕ) (l : List ℕ) → drop i (take (i + n) l) ≡ take n (drop i l)
drop_take zero n l = let e : 0 + n ≡ n = omega arith in rw e
drop_take (suc i) n [] = let e : suc i + n ≡ suc (i + n) = omega arith in rw (e, take-nil)
drop_take (suc i) n (x ∷ l) = let e : suc i + n ≡ suc (i + n) = omega arith in rw e (drop_take i n l)

pub length_part : (l : List ℕ) (at n : ℕ) → at + n ≤ length l → length (part l at n) ≡ n
length_part l at n h = length-take-le n (drop at l) (rw length-drop (omega arith))

-- a part of a part
pub part_part : (l : List ℕ) (at n i m : ℕ) → i + m ≤ n → part (part l at n) i m ≡ part l (at + i) m
part_part l at n i m h =
    let e : n ≡ i + (n - i) = omega arith in
    let k : m ≤ n - i = omega arith in
    rw e (ap (take m) (drop_take i (n - i) (drop at l)) ∙ take-take m (n - i) (drop i (drop at l)) k ∙ ap (take m) (drop-drop i at l))

-- a part is its two halves
pub part_add : (l : List ℕ) (at n m : ℕ) → part l at (n + m) ≡ part l at n ++ part l (at + n) m
part_add l at n m = take-add n m (drop at l) ∙ ap (λ r. take n (drop at l) ++ take m r) (drop-drop n at l)

-- ---- pieces in a row, each of k bytes

le_mul : (n m k : ℕ) → n < m → n * k + k ≤ m * k
le_mul n m k h = let e : suc n * k ≡ n * k + k = omega arith in let le = mul-le-mul_right k h in rw (sym e) le

abbrev pub Each : (ℕ → List ℕ) → ℕ → ℕ → Type 0
Each f m k = (i : ℕ) → i < m → length (f i) ≡ k

pub length_joined : (f : ℕ → List ℕ) (k m : ℕ) → Each f m k → length (joined f m) ≡ m * k
unfolding joined
length_joined f k zero h = omega arith
length_joined f k (suc m) h =
    let e = length_joined f k m (λ i b. h i (omega arith)) in
    let d = h m (omega arith) in
    rw (length-append, e, d) (omega arith)

-- the piece n stands behind n others
pub part_joined : (f : ℕ → List ℕ) (k m : ℕ) → Each f m k → (n : ℕ) → n < m → part (joined f m) (n * k) k ≡ f n
unfolding joined
part_joined f k zero h n below = absurd (omega arith)
part_joined f k (suc m) h n below = go (part_joined f k m (λ i b. h i (omega arith)) n) (ℕ_discrete n m)
  where
    front : length (joined f m) ≡ m * k
    front = length_joined f k m (λ i b. h i (omega arith))

    go : (n < m → part (joined f m) (n * k) k ≡ f n) → Dec (n ≡ m) → part (joined f m ++ f m) (n * k) k ≡ f n
    go before (yes e) =
        rw e
        (ap (take k) (drop_at (joined f m) (f m) (m * k) front) ∙ take_all k (f m) (let d = h m (omega arith) in omega arith))
    go before (no q) =
        let inner : n * k + k ≤ m * k = le_mul n m k (omega arith) in
        let size = front in
        ap (take k) (drop-append-le (n * k) (joined f m) (f m) (omega arith))
        ∙ take-append-le k (drop (n * k) (joined f m)) (f m) (rw (length-drop, front) (omega arith))
        ∙ before (omega arith)

-- a list is its pieces
pub joined_parts : (l : List ℕ) (k m : ℕ) → joined (λ i. part l (i * k) k) m ≡ take (m * k) l
unfolding joined
joined_parts l k zero = let e : 0 * k ≡ 0 = omega arith in rw e
joined_parts l k (suc m) =
    let e : suc m * k ≡ m * k + k = omega arith in
    rw (e, joined_parts l k m) (sym (take-add (m * k) k l))

pub joined_same : (f g : ℕ → List ℕ) (m : ℕ) → ((i : ℕ) → i < m → f i ≡ g i) → joined f m ≡ joined g m
unfolding joined
joined_same f g zero h = refl
joined_same f g (suc m) h = rw (joined_same f g m (λ i b. h i (omega arith)), h m (omega arith))

-- ---- a test at the first n numbers

pub first_intro : (t : ℕ → Bool) (n : ℕ) → ((i : ℕ) → i < n → t i ≡ true) → first_hold t n ≡ true
unfolding first_hold
first_intro t zero h = refl
first_intro t (suc n) h = and_both (first_intro t n (λ i b. h i (omega arith))) (h n (omega arith))

pub first_at : (t : ℕ → Bool) (n : ℕ) → first_hold t n ≡ true → (i : ℕ) → i < n → t i ≡ true
unfolding first_hold
first_at t zero e i below = absurd (omega arith)
first_at t (suc n) e i below = go (λ k. first_at t n both.0 i k) (ℕ_discrete i n)
  where
    both : (first_hold t n ≡ true) × (t n ≡ true)
    both = and_split (first_hold t n) (t n) e

    go : (i < n → t i ≡ true) → Dec (i ≡ n) → t i ≡ true
    go before (yes q) = rw q both.1
    go before (no q) = before (omega arith)
