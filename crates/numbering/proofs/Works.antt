-- Works as numbers: each goes back to what it came from. Assumes nothing.
use Prim.Native.Nat.{ℕ, ◌<◌}
use mathlib.Core.Path.{◌≡◌, refl, sym}
use mathlib.Core.Bool.{Bool, true, false, ◌&&◌}
use mathlib.Core.List.{List, [], ◌∷◌}
use lib.Dec.{eqb, ltb}
use borrow.Author.Tests.{eqb-true, ltb-true}
use Rattle.rules.specs.declared.Work.{Work}
use Rattle.rules.specs.declared.Work.TheVariants.{Nothing, EraseSector, EraseBlock, EraseArray, ProgramPage, ProgramSecurity, LockSecurity, WriteConfiguration, AddPermanent}
use Rattle.rules.specs.Words.{bit, one_of, Each, end, ◌next◌}
use Rattle.rules.proofs.Bools.{and_split, upto_at}
use Rattle.rules.proofs.Rows.{at_one}
use Rattle.numbering.specs.Numbering.{kind_of, number_of, work_right, work_of}

kind_small : (k n : ℕ) → work_right k n ≡ true → k < 9
kind_small k n e = ltb-true k 9 (and_split (ltb k 9) _ (and_split (ltb k 9 && _) _ e).0).0

pub work_back : (w : Work) → (work_right (kind_of w) (number_of w) ≡ true) × (work_of (kind_of w) (number_of w) ≡ w)
unfolding work_of bit
work_back Nothing = (refl, refl)
work_back (EraseSector n) = (refl, refl)
work_back (EraseBlock n) = (refl, refl)
work_back EraseArray = (refl, refl)
work_back (ProgramPage n) = (refl, refl)
work_back (ProgramSecurity n) = (refl, refl)
work_back LockSecurity = (refl, refl)
work_back (WriteConfiguration true true) = (refl, refl)
work_back (WriteConfiguration true false) = (refl, refl)
work_back (WriteConfiguration false true) = (refl, refl)
work_back (WriteConfiguration false false) = (refl, refl)
work_back (AddPermanent v) = (refl, refl)

pub work_small : (w : Work) → kind_of w < 9
work_small w = kind_small (kind_of w) (number_of w) (work_back w).0

abbrev kinds : List ℕ
kinds = 0 ∷ 1 ∷ 2 ∷ 3 ∷ 4 ∷ 5 ∷ 6 ∷ 7 ∷ 8 ∷ []

module _ (n : ℕ) where
  abbrev Kept : ℕ → Type 0
  Kept k = work_right k n ≡ true → (kind_of (work_of k n) ≡ k) × (number_of (work_of k n) ≡ n)

  each_kept : Each Kept kinds
  unfolding work_of bit
  each_kept = none 0 next any 1 next any 2 next none 3 next any 4 next any 5 next none 6 next pair next any 8 next end
    where
      none : (k : ℕ) → (eqb n 0 && true) ≡ true → (k ≡ k) × (0 ≡ n)
      none k e = (refl, sym (eqb-true n 0 (and_split (eqb n 0) true e).0))

      any : (k : ℕ) → ◌≡◌ {A = Bool} true true → (k ≡ k) × (n ≡ n)
      any k e = (refl, refl)

      pair : ltb n 4 ≡ true → (◌≡◌ {A = ℕ} 7 7) × (number_of (work_of 7 n) ≡ n)
      pair e = (refl, eqb-true _ n (upto_at 4 (λ m. eqb (number_of (work_of 7 m)) m) refl n (ltb-true n 4 e)))

  -- a kind and a number that some work has are those of the work that they give
  pub work_kept : (k : ℕ) → Kept k
  work_kept k e = at_one Kept kinds k (upto_at 9 (λ m. one_of m kinds) refl k (kind_small k n e)) each_kept e
