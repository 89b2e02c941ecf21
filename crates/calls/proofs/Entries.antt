-- A list that is filled entry by entry, and how many of its entries come in time. Assumes nothing.
use Prim.Native.Nat.{ℕ, zero, suc, ◌+◌, ◌<◌}
use mathlib.Core.Path.{◌≡◌, refl, sym, ap, subst, ◌∙◌}
use mathlib.Core.Bool.{Bool, true, false, cond, not, true≢false}
use mathlib.Core.List.{List, [], ◌∷◌}
use native.Mathlib.Omega.{arith}
use denote.Param.Members.{Mut}
use lib.ListN.{length, take, get_or}
use lib.Seq.{ext_get_or}
use Rattle.std.specs.Fn.{Called}
use Rattle.std.specs.Array.{IsFromFnResult, IsFromFnResultFrom}
use Rattle.std.specs.List.{prefix_len}
use Rattle.std.proofs.lemmas.List.Folds.{length-prefix_len}
use Rattle.rules.specs.Words.{pick}
use Rattle.stations.specs.Slots.{first_from}
use Rattle.stations.specs.Given.{in_time}
use Rattle.calls.specs.Lists.{entries_from}

entries_length : (f : ℕ → ℕ) (j n : ℕ) → length (entries_from f j n) ≡ n
unfolding entries_from
entries_length f j zero = refl
entries_length f j (suc n) = ap suc (entries_length f (suc j) n)

entries_at : (f : ℕ → ℕ) (j n k : ℕ) → k < n → get_or (entries_from f j n) k 0 ≡ f (j + k)
unfolding entries_from
entries_at f j zero k h = absurd (omega arith)
entries_at f j (suc n) zero h = let e : j ≡ j + 0 = omega arith in ap f e
entries_at f j (suc n) (suc k) h = let e : suc j + k ≡ j + suc k = omega arith in entries_at f (suc j) n k (omega arith) ∙ ap f e

pub entries_are : (l : List ℕ) (f : ℕ → ℕ) (n : ℕ) → length l ≡ n → ((k : ℕ) → k < n → get_or l k 0 ≡ f k) → l ≡ entries_from f 0 n
entries_are l f n e h =
    ext_get_or 0 l (entries_from f 0 n) (e ∙ sym (entries_length f 0 n))
    (λ k below. let q : 0 + k ≡ k = omega arith in h k (omega arith) ∙ ap f (sym q) ∙ sym (entries_at f 0 n k (omega arith)))

-- what the closure gives at each place
module _ {F : Type 0} (g : Mut F (ℕ × Unit {0}) ℕ) (h : ℕ → ℕ) (f : F) (each : (i y : ℕ) (q : F) → Called g f (i, tt) y q → (q ≡ f) × (y ≡ h i)) (ys : List ℕ) where
  filled_at : (i n : ℕ) (p : F) → p ≡ f → IsFromFnResultFrom g p ys i n → (k : ℕ) → k < n → get_or ys (i + k) 0 ≡ h (i + k)
  filled_at i zero p e w k below = absurd (omega arith)
  filled_at i (suc n) p e (q, y, here, ran, more) zero below =
      let z : i ≡ i + 0 = omega arith in
      let made = each i y q (subst (λ (x : F). Called g x (i, tt) y q) e ran) in
      ap (λ (j : ℕ). get_or ys j 0) (sym z) ∙ here.1 0 ∙ made.1 ∙ ap h z
  filled_at i (suc n) p e (q, y, here, ran, more) (suc k) below =
      let up : i + 1 + k ≡ i + suc k = omega arith in
      let made = each i y q (subst (λ (x : F). Called g x (i, tt) y q) e ran) in
      ap (λ (j : ℕ). get_or ys j 0) (sym up) ∙ filled_at (i + 1) n q made.0 more k (omega arith) ∙ ap h up

  pub filled : (n : ℕ) → IsFromFnResult g f ys n → ys ≡ entries_from h 0 n
  filled n w = entries_are ys h n w.long (λ k below. let z : 0 + k ≡ k = omega arith in ap (λ (j : ℕ). get_or ys j 0) (sym z) ∙ filled_at 0 n f refl w.each k below ∙ ap h z)

-- ---- the writes that end in time, from the first on

-- the first place at which the test fails is as far as it holds
pub prefix_first : (p t : ℕ → Bool) (xs : List ℕ) (i : ℕ) → ((k : ℕ) → k < length xs → t (i + k) ≡ not (p (get_or xs k 0))) → i + prefix_len p xs ≡ first_from t i (length xs)
unfolding first_from
prefix_first p t [] i h = omega arith
prefix_first p t (x ∷ xs) i h =
    let z : i ≡ i + 0 = omega arith in
    go (p x) (t i) (ap t z ∙ h 0 (omega arith)) (prefix_first p t xs (suc i) (λ k below. let up : suc i + k ≡ i + suc k = omega arith in ap t up ∙ h (suc k) (omega arith)))
  where
    go : (b c : Bool) → c ≡ not b → suc i + prefix_len p xs ≡ first_from t (suc i) (length xs)
        → i + cond b (1 + prefix_len p xs) 0 ≡ pick c i (first_from t (suc i) (length xs))
    go true true e h = absurd (true≢false e)
    go true false e h = let up : i + (1 + prefix_len p xs) ≡ suc i + prefix_len p xs = omega arith in up ∙ h
    go false true e h = omega arith
    go false false e h = absurd (true≢false (sym e))

pub ended_in_time : (a : ℕ) (list : List ℕ) (n : ℕ) → length list ≡ n → {r : ℕ} → r ≡ length (take (prefix_len (in_time a) list) list) → r ≡ first_from (λ j. not (in_time a (get_or list j 0))) 0 n
ended_in_time a list n e {r} is =
    let t : ℕ → Bool = λ j. not (in_time a (get_or list j 0)) in
    let z : prefix_len (in_time a) list ≡ 0 + prefix_len (in_time a) list = omega arith in
    is ∙ length-prefix_len (in_time a) list ∙ z
    ∙ prefix_first (in_time a) t list 0 (λ k below. let y : 0 + k ≡ k = omega arith in ap t y)
    ∙ ap (first_from t 0) e
