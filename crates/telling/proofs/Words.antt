-- Two words are the same where their bytes are. Assumes nothing.
use Rattle.std.proofs.Common.{◌≡◌, ℕ, zero, suc, ◌<◌, Bool, true, false, List, [], ◌∷◌, length, get_or, refl, arith}
use Rattle.std.proofs.lemmas.List.{ext_get_or}
use Rattle.std.proofs.lemmas.Bool.{eqb-true, eq-eqb}
use Rattle.rules.proofs.Bools.{and_split, and_both, same_test}
use borrow.Author.Tests.{ltb-true, ltb-false}
use lib.Dec.{eqb, ltb}
use lib.Pointwise.{pointwise}
use Rattle.telling.specs.Arguments.{agree, same}

agree_all : (n : ℕ) (a : List ℕ) → agree n a a ≡ true
unfolding agree
agree_all zero a = refl
agree_all (suc n) a = rw (agree_all n a, eq-eqb (get_or a n 0) (get_or a n 0) refl)

agree_at : (n : ℕ) (a b : List ℕ) → agree n a b ≡ true → (i : ℕ) → i < n → get_or a i 0 ≡ get_or b i 0
unfolding agree
agree_at zero a b e i h = absurd (omega arith)
agree_at (suc n) a b e i h =
    let p = and_split (agree n a b) (eqb (get_or a n 0) (get_or b n 0)) e in
    go (ltb i n) refl p.1 (agree_at n a b p.0 i)
  where
    go : (t : Bool) → ltb i n ≡ t → eqb (get_or a n 0) (get_or b n 0) ≡ true → (i < n → get_or a i 0 ≡ get_or b i 0) → get_or a i 0 ≡ get_or b i 0
    go true q p before = before (ltb-true i n q)
    go false q p before =
        let k = ltb-false i n q in
        let e : i ≡ n = omega arith in
        rw e (eqb-true _ _ p)

same_yes : (a b : List ℕ) → a ≡ b → same a b ≡ true
unfolding same
same_yes a b e = rw (← e) (and_both (eq-eqb (length a) (length a) refl) (agree_all (length a) a))

same_all : (a b : List ℕ) → same a b ≡ true → a ≡ b
unfolding same
same_all a b e =
    let p = and_split (eqb (length a) (length b)) (agree (length a) a b) e in
    ext_get_or 0 a b (eqb-true _ _ p.0) (agree_at (length a) a b p.1)

-- the comparison of two slices

compared : (a b : List ℕ) → pointwise eqb a b ≡ true → a ≡ b
compared [] [] e = refl
compared [] (y ∷ b) e = cc
compared (x ∷ a) [] e = cc
compared (x ∷ a) (y ∷ b) e =
    let p = and_split (eqb x y) (pointwise eqb a b) e in
    let h = eqb-true x y p.0 in
    let t = compared a b p.1 in
    cc

compared_all : (a : List ℕ) → pointwise eqb a a ≡ true
compared_all [] = refl
compared_all (x ∷ a) = and_both (eq-eqb x x refl) (compared_all a)

pub same_is : (a b : List ℕ) → pointwise eqb a b ≡ same a b
same_is a b = same_test _ _ (λ e. same_yes a b (compared a b e)) (λ e. rw (← same_all a b e) (compared_all a))
