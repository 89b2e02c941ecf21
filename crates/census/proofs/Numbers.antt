-- Counts and tests over numbers at the next one, as a loop finds them. By their definitions. Assumes nothing.
use Prim.Native.Nat.{ℕ, zero, suc, ◌+◌, ◌≤◌, ◌<◌}
use mathlib.Core.Path.{◌≡◌, refl, sym, ap, ◌∙◌}
use mathlib.Core.Bool.{Bool, true, false, cond, not, ◌&&◌, ◌||◌}
use mathlib.Core.List.{List, ◌∷◌}
use native.Mathlib.Omega.{arith}
use Rattle.std.proofs.Common.{inl, inr}
use lib.ListN.{length, get_or, get_or-eq_default}
use Rattle.std.specs.Prelude.{Option, Some, None, slice_get, ◌⊎◌}
use Rattle.std.specs.Option.{option_map}
use Rattle.std.specs.List.{list_any, filter, range_with_len}
use Rattle.std.specs.Int.{from_bool}
use Rattle.std.proofs.lemmas.Option.{slice_get_within, slice_get_cases, get_or_from_slice_get}
use Rattle.rules.specs.Words.{num, pick}
use Rattle.stations.specs.Slots.{Shown, some_below, those_from, empty, live, dead, station, live_of, passed_over_lem}
use Rattle.stations.proofs.First.{those_in}
use Rattle.slots.specs.Reads.{IsSlot}
use Rattle.census.specs.declared.Counts.{Counts}
use Rattle.census.specs.Census.{count_below, counts_below}

one_more : (n : ℕ) → suc n ≡ n + 1
one_more n = omega arith

-- ---- counts

pub count_next : (t : ℕ → Bool) (i : ℕ) → count_below t (i + 1) ≡ count_below t i + num (t i)
unfolding count_below
count_next t i = ap (count_below t) (sym (one_more i))

num_le : (b : Bool) → num b ≤ 1
num_le true = omega arith
num_le false = omega arith

pub count_le : (t : ℕ → Bool) (n : ℕ) → count_below t n ≤ n
unfolding count_below
count_le t zero = omega arith
count_le t (suc n) = omega (arith, count_le t n, num_le (t n))

pub count_hit : (t : ℕ → Bool) (i n : ℕ) → n ≡ count_below t i → t i ≡ true → {m : ℕ} → m ≡ n + 1 → m ≡ count_below t (i + 1)
count_hit t i n e h q = q ∙ (λ k. e k + num (sym h k)) ∙ sym (count_next t i)

pub count_miss : (t : ℕ → Bool) (i n : ℕ) → n ≡ count_below t i → t i ≡ false → {m : ℕ} → m ≡ n → m ≡ count_below t (i + 1)
count_miss t i n e h q = let z : n + 0 ≡ n = omega arith in q ∙ sym z ∙ (λ k. e k + num (sym h k)) ∙ sym (count_next t i)

-- ---- the four counts

pub num_of : (b : Bool) → from_bool b ≡ num b
num_of true = refl
num_of false = refl

pub small : (b : Bool) {n : ℕ} → n ≡ from_bool b → n ≤ 1
small true e = omega (arith, e)
small false e = omega (arith, e)

pub record AtMost (c : Counts) (n : ℕ) : Type 0 where
  pub empty_le : c.empty ≤ n
  pub live_le : c.live ≤ n
  pub passed_le : c.passed ≤ n
  pub dead_le : c.dead ≤ n

module _ (v : Shown) (c : Counts) (i : ℕ) (is : c ≡ counts_below v i) where
  pub at_most : AtMost c i
  unfolding counts_below
  at_most =
      record {
        empty_le = omega (arith, ap (λ (x : Counts). x.empty) is, count_le (empty v) i);
        live_le = omega (arith, ap (λ (x : Counts). x.live) is, count_le (live v) i);
        passed_le = omega (arith, ap (λ (x : Counts). x.passed) is, count_le (passed_over_lem v) i);
        dead_le = omega (arith, ap (λ (x : Counts). x.dead) is, count_le (dead v) i);
      }

  pub counts_next : {e l p : Bool} → e ≡ empty v i → l ≡ live v i → p ≡ passed_over_lem v i → {a b d f : ℕ} → a ≡ from_bool e → b ≡ from_bool l → d ≡ from_bool p → f ≡ from_bool (not (e || l))
      → record { empty = c.empty + a; live = c.live + b; passed = c.passed + d; dead = c.dead + f } ≡ counts_below v (i + 1)
  unfolding counts_below dead
  counts_next {e} {l} {p} ee el ep ea eb ed ef = λ j. record {
    empty = ((λ k. (is k).empty + (ea ∙ num_of e ∙ ap num ee) k) ∙ sym (count_next (empty v) i)) j;
    live = ((λ k. (is k).live + (eb ∙ num_of l ∙ ap num el) k) ∙ sym (count_next (live v) i)) j;
    passed = ((λ k. (is k).passed + (ed ∙ num_of p ∙ ap num ep) k) ∙ sym (count_next (passed_over_lem v) i)) j;
    dead = ((λ k. (is k).dead + (ef ∙ num_of (not (e || l)) ∙ (λ m. num (not (ee m || el m)))) k) ∙ sym (count_next (dead v) i)) j;
  }

-- ---- a range searched

-- some number of a range that begins at 0, or some one below it
some_in : (t : ℕ → Bool) (i n : ℕ) → (list_any t (range_with_len i n) || some_below i t) ≡ some_below (i + n) t
unfolding some_below
some_in t i zero = let z : i ≡ i + 0 = omega arith in ap (λ (k : ℕ). some_below k t) z
some_in t i (suc n) =
    let up : i + 1 + n ≡ i + suc n = omega arith in
    turned (t i) (list_any t (range_with_len (i + 1) n)) (some_below i t)
    ∙ ap (λ (k : ℕ). list_any t (range_with_len (i + 1) n) || some_below k t) (one_more i)
    ∙ some_in t (i + 1) n
    ∙ ap (λ (k : ℕ). some_below k t) up
  where
    turned : (a b c : Bool) → ((a || b) || c) ≡ (b || (c || a))
    turned true true c = refl
    turned true false true = refl
    turned true false false = refl
    turned false true c = refl
    turned false false true = refl
    turned false false false = refl

pub some_of_range : (t : ℕ → Bool) (n : ℕ) → list_any t (range_with_len 0 n) ≡ some_below n t
unfolding some_below
some_of_range t n = let z : 0 + n ≡ n = omega arith in sym (or_false (list_any t (range_with_len 0 n))) ∙ some_in t 0 n ∙ ap (λ (k : ℕ). some_below k t) z
  where
    or_false : (b : Bool) → (b || false) ≡ b
    or_false true = refl
    or_false false = refl

those_of_range : (t : ℕ → Bool) (i n : ℕ) → filter t (range_with_len i n) ≡ those_from t i n
unfolding those_from
those_of_range t i zero = refl
those_of_range t i (suc n) = go (t i) (those_of_range t (i + 1) n ∙ ap (λ (k : ℕ). those_from t k n) (sym (one_more i)))
  where
    go : (b : Bool) → filter t (range_with_len (i + 1) n) ≡ those_from t (suc i) n
        → cond b (i ∷ filter t (range_with_len (i + 1) n)) (filter t (range_with_len (i + 1) n)) ≡ pick b (i ∷ those_from t (suc i) n) (those_from t (suc i) n)
    go true e = ap (λ (xs : List ℕ). i ∷ xs) e
    go false e = e

-- the k-th of those at which a test holds, as a chain over the range gives it
pub nth_found : (t : ℕ → Bool) (k n : ℕ) → n ≡ 2048 → (r : Option ℕ) → option_map (λ x. x) r ≡ slice_get (filter t (range_with_len 0 n)) k → IsSlot (get_or (those_from t 0 n) k 2048) r
nth_found t k n e r f = go r (f ∙ ap (λ (xs : List ℕ). slice_get xs k) (those_of_range t 0 n))
  where
    go : (o : Option ℕ) → option_map (λ x. x) o ≡ slice_get (those_from t 0 n) k → IsSlot (get_or (those_from t 0 n) k 2048) o
    go (Some x) q =
        let inside = slice_get_within (those_from t 0 n) k x (sym q) in
        let is = get_or_from_slice_get (those_from t 0 n) k x 2048 (sym q) in
        let hit = (those_in t 0 n k 2048 inside).to in
        (sym is, omega (arith, is, hit, e))
    go None q = get_or-eq_default (those_from t 0 n) 2048 (past (slice_get_cases (those_from t 0 n) k).1)
      where
        past : ((x : ℕ) × (k < length (those_from t 0 n)) × (slice_get (those_from t 0 n) k ≡ Some x) × (get_or (those_from t 0 n) k x ≡ x)) ⊎ ((length (those_from t 0 n) ≤ k) × (slice_get (those_from t 0 n) k ≡ None)) → length (those_from t 0 n) ≤ k
        past (inl h) = let two : Some h.0 ≡ None = sym h.2 ∙ sym q in (cc)
        past (inr h) = h.0

-- ---- passed over

module _ (v : Shown) (i : ℕ) {b : Bool} (is : b ≡ live v i) where
  pub passed_not : b ≡ false → b ≡ passed_over_lem v i
  unfolding passed_over_lem
  passed_not f = f ∙ sym (ap (λ (x : Bool). x && some_below i (live_of v (station v i))) (sym is ∙ f))

  pub passed_by_lem : b ≡ true → {n : ℕ} → n ≡ station v i → {a : Bool} → a ≡ list_any (live_of v n) (range_with_len 0 i) → a ≡ passed_over_lem v i
  unfolding passed_over_lem
  passed_by_lem h {n} e s =
      s
      ∙ some_of_range (live_of v n) i
      ∙ sym (ap (λ (x : Bool). x && some_below i (live_of v (station v i))) (sym is ∙ h) ∙ ap (λ (k : ℕ). some_below i (live_of v k)) (sym e))
