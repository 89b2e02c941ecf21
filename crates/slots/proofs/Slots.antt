-- The bytes of a slot as a slice of the read, and the first slot of a kind as a search gives it. By the definitions of a slot. Assumes nothing.
use Prim.Native.Nat.{ℕ, zero, suc, ◌+◌, ◌<◌, ◌≤◌}
use mathlib.Core.Path.{◌≡◌, refl, sym, ap, subst, ◌∙◌}
use mathlib.Core.Bool.{Bool, true, false, cond, ◌&&◌}
use mathlib.Core.List.{List, [], ◌∷◌}
use native.Mathlib.Omega.{arith}
use lib.ListN.{length, take, get_or}
use Rattle.std.specs.Prelude.{Option, Some, None, MatchOption, IfSome}
use Rattle.std.specs.Option.{option_map}
use Rattle.std.specs.List.{list_all, range_with_len, find}
use Rattle.std.proofs.lemmas.List.{take_all}
use Rattle.std.proofs.lemmas.List.Folds.{list_all_more}
use Rattle.rules.specs.Words.{pick}
use Rattle.stations.proofs.First.{first_is}
use Rattle.slots.specs.Reads.{IsSlot}
use Rattle.stations.specs.Slots.{Shown, all_below, first_from, byte_of, bytes_of}

one_more : (n : ℕ) → suc n ≡ n + 1
one_more n = omega arith

-- a list whose elements these are: a test holds of all of them
module _ (p : ℕ → Bool) (f : ℕ → ℕ) (xs : List ℕ) (n : ℕ) (size : length xs ≡ n) (at : (j : ℕ) → j < n → get_or xs j 0 ≡ f j) where
  all_so_far : (k : ℕ) → k ≤ n → list_all p (take k xs) ≡ all_below k (λ j. p (f j))
  unfolding all_below
  all_so_far zero h = refl
  all_so_far (suc k) h =
      ap (λ (m : ℕ). list_all p (take m xs)) (one_more k)
      ∙ list_all_more p xs k 0 (omega (arith, size))
      ∙ (λ i. all_so_far k (omega arith) i && p (at k (omega arith) i))

  pub all_of_them : list_all p xs ≡ all_below n (λ j. p (f j))
  all_of_them = sym (ap (list_all p) (take_all n xs (omega (arith, size)))) ∙ all_so_far n (omega arith)

-- and from j on they are these
pub data_from : (v : Shown) (i j n : ℕ) (xs : List ℕ) → length xs ≡ n → ((k : ℕ) → k < n → get_or xs k 0 ≡ byte_of v i (j + k)) → xs ≡ bytes_of v i j n
unfolding bytes_of
data_from v i j zero [] size at = refl
data_from v i j zero (x ∷ xs) size at = absurd (omega (arith, size))
data_from v i j (suc n) [] size at = absurd (omega (arith, size))
data_from v i j (suc n) (x ∷ xs) size at =
    let here : x ≡ byte_of v i j = let z : j + 0 ≡ j = omega arith in at 0 (omega arith) ∙ ap (byte_of v i) z in
    let rest : xs ≡ bytes_of v i (suc j) n =
    data_from v i (suc j) n xs (omega (arith, size)) (λ k h. let z : j + suc k ≡ suc j + k = omega arith in at (suc k) (omega arith) ∙ ap (byte_of v i) z) in
    λ k. here k ∷ rest k

-- the first of some numbers at which a test holds, where there is one
pub first_found : (t : ℕ → Bool) (i n m : ℕ) → i + n ≡ m
    → MatchOption (find t (range_with_len i n)) (first_from t i n ≡ m) (λ k. (k ≡ first_from t i n) × (k < m))
unfolding first_from
first_found t i zero m e = let z : i + 0 ≡ i = omega arith in sym z ∙ e
first_found t i (suc n) m e =
    go (t i)
    (subst (λ (s : ℕ). MatchOption (find t (range_with_len (i + 1) n)) (first_from t s n ≡ m) (λ k. (k ≡ first_from t s n) × (k < m))) (sym (one_more i))
    (first_found t (i + 1) n m (omega arith)))
  where
    go : (b : Bool) → MatchOption (find t (range_with_len (i + 1) n)) (first_from t (suc i) n ≡ m) (λ k. (k ≡ first_from t (suc i) n) × (k < m))
        → MatchOption (cond b (Some i) (find t (range_with_len (i + 1) n))) (pick b i (first_from t (suc i) n) ≡ m) (λ k. (k ≡ pick b i (first_from t (suc i) n)) × (k < m))
    go true later = (refl, omega (arith, e))
    go false later = later

same_option : (r : Option ℕ) → option_map (λ x. x) r ≡ r
same_option (Some x) = refl
same_option None = refl

-- as `find` over a range gives it
pub slot_found : (t : ℕ → Bool) (i n : ℕ) → i + n ≡ 2048 → (r : Option ℕ) → option_map (λ x. x) r ≡ find t (range_with_len i n) → IsSlot (first_from t i n) r
slot_found t i n e r f = subst (λ (o : Option ℕ). IsSlot (first_from t i n) o) (sym f ∙ same_option r) (first_found t i n 2048 e)

-- it does not lie before them
pub found_behind : (t : ℕ → Bool) (i n : ℕ) (r : Option ℕ) → IsSlot (first_from t i n) r → IfSome r (λ k. i ≤ k)
found_behind t i n (Some k) h = let f = (first_is t i n).from in omega (arith, h.0)
found_behind t i n None h = tt

-- there is one slot at a number, or none
pub slot_one : (n : ℕ) (r r' : Option ℕ) → IsSlot n r → IsSlot n r' → r ≡ r'
slot_one n (Some i) (Some j) p q = ap Some (p.0 ∙ sym q.0)
slot_one n (Some i) None p q = absurd (omega (arith, p.0, p.1, q))
slot_one n None (Some j) p q = absurd (omega (arith, p, q.0, q.1))
slot_one n None None p q = refl
