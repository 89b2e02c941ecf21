-- How work is told keeps within the page and the memories. Assumes nothing.
use Prim.Native.Nat.{◌+◌, ◌%◌, ◌≤◌}
use mathlib.Core.Path.{◌≡◌, refl}
use native.Mathlib.Omega.{arith}
use lib.Dec.{eqb}
use Rattle.rules.specs.Words.{num}
use Rattle.rules.proofs.Blocks.{block_placed}
use Rattle.rules.specs.declared.Work.{Work}
use Rattle.rules.specs.declared.Work.TheVariants.{Nothing, EraseSector, EraseBlock, EraseArray, ProgramPage, ProgramSecurity, LockSecurity, WriteConfiguration, AddPermanent}
use Rattle.describing.specs.Works.{told}

pub told_kind : (w : Work) → (told w).kind ≤ 8
told_kind Nothing = omega arith
told_kind (EraseSector n) = omega arith
told_kind (EraseBlock n) = omega arith
told_kind EraseArray = omega arith
told_kind (ProgramPage n) = omega arith
told_kind (ProgramSecurity n) = omega arith
told_kind LockSecurity = omega arith
told_kind (WriteConfiguration ioc wpen) = omega arith
told_kind (AddPermanent bits) = omega arith

-- a flag that is told as a number
pub told_security : (w : Work) → num (eqb (told w).security 1) ≡ (told w).security
told_security Nothing = refl
told_security (EraseSector n) = refl
told_security (EraseBlock n) = refl
told_security EraseArray = refl
told_security (ProgramPage n) = refl
told_security (ProgramSecurity n) = refl
told_security LockSecurity = refl
told_security (WriteConfiguration ioc wpen) = refl
told_security (AddPermanent bits) = refl

pub told_inside : (w : Work) → (told w).start + (told w).size ≤ 2097152
told_inside Nothing = omega arith
told_inside (EraseSector n) = omega arith
told_inside (EraseBlock n) = (block_placed (n % 40) (omega arith)).inside
told_inside EraseArray = omega arith
told_inside (ProgramPage n) = omega arith
told_inside (ProgramSecurity n) = omega arith
told_inside LockSecurity = omega arith
told_inside (WriteConfiguration ioc wpen) = omega arith
told_inside (AddPermanent bits) = omega arith
