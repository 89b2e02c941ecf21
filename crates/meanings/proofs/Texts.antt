-- A text over lent bytes. Assumes nothing.
use Prim.Native.Nat.{ℕ, ◌≤◌, ◌<◌}
use mathlib.Core.Path.{◌≡◌, refl, sym, ◌∙◌}
use mathlib.Core.Bool.{Bool, true, false}
use mathlib.Core.List.{List, ◌++◌}
use native.Mathlib.Omega.{arith}
use lib.Dec.{ltb}
use lib.ListN.{length, get_or, take, drop, drop_of_length-le}
use lib.Seq.{ext_get_or, length-take-le, take_all}
use Rattle.std.proofs.lemmas.List.{get_or-take}
use borrow.Author.Tests.{ltb-true, ltb-false}
use Rattle.meanings.specs.Meanings.{over}

-- as many bytes as the text's first n, each of them its own
pub copied_all : (p t : List ℕ) (n : ℕ) → length p ≡ n → n ≤ length t → ((k : ℕ) → k < n → get_or p k 0 ≡ get_or t k 0) → p ≡ take n t
copied_all p t n size fits same =
    ext_get_or 0 p (take n t) (size ∙ sym (length-take-le n t fits)) (λ k below. let h : k < n = omega arith in same k h ∙ sym (get_or-take n t k 0 h))

-- where either ends, the whole is written
pub over_end : (t l : List ℕ) (i : ℕ) → i ≤ length t → i ≤ length l → (i < length t → length l ≤ i) → take i t ++ drop i l ≡ over t l
unfolding over
over_end t l i ht hl h = go (ltb i (length t)) refl
  where
    go : (b : Bool) → ltb i (length t) ≡ b → take i t ++ drop i l ≡ take (length l) t ++ drop (length t) l
    go true e =
        let below = ltb-true i (length t) e in
        let k = h below in
        let p : i ≡ length l = omega arith in
        (λ j. take (p j) t ++ (drop_of_length-le l {i = i} (omega arith) ∙ sym (drop_of_length-le l {i = length t} (omega arith))) j)
    go false e =
        let above = ltb-false i (length t) e in
        let p : i ≡ length t = omega arith in
        (λ j. (take_all i t (omega arith) ∙ sym (take_all (length l) t (omega arith))) j ++ drop (p j) l)
