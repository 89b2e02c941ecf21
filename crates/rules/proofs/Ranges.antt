-- The range of well-numbered work ends within its memory. Assumes nothing.
use Prim.Native.Nat.{◌+◌, ◌≤◌}
use mathlib.Core.Path.{◌≡◌}
use mathlib.Core.Bool.{true}
use native.Mathlib.Omega.{arith}
use borrow.Author.Tests.{ltb-true}
use Rattle.rules.specs.declared.Work.{Work}
use Rattle.rules.specs.declared.Work.TheVariants.{Nothing, EraseSector, EraseBlock, EraseArray, ProgramPage, ProgramSecurity, LockSecurity, WriteConfiguration, AddPermanent}
use Rattle.rules.specs.Blocks.{array_size_lem, security_size_lem}
use Rattle.rules.specs.Works.{array_range, security_range}
use Rattle.rules.specs.WellFormed.{numbers_right}
use Rattle.rules.proofs.Blocks.{block_placed}

pub array_inside : (w : Work) → numbers_right w ≡ true → (array_range w).start + (array_range w).size ≤ array_size_lem
array_inside Nothing e = omega arith
array_inside (EraseSector n) e = let h = ltb-true n 512 e in omega arith
array_inside (EraseBlock n) e = (block_placed n (ltb-true n 40 e)).inside
array_inside EraseArray e = omega arith
array_inside (ProgramPage n) e = let h = ltb-true n 8192 e in omega arith
array_inside (ProgramSecurity n) e = omega arith
array_inside LockSecurity e = omega arith
array_inside (WriteConfiguration i w) e = omega arith
array_inside (AddPermanent v) e = omega arith

pub security_inside : (w : Work) → numbers_right w ≡ true → (security_range w).start + (security_range w).size ≤ security_size_lem
security_inside Nothing e = omega arith
security_inside (EraseSector n) e = omega arith
security_inside (EraseBlock n) e = omega arith
security_inside EraseArray e = omega arith
security_inside (ProgramPage n) e = omega arith
security_inside (ProgramSecurity n) e = let h = ltb-true n 8 e in omega arith
security_inside LockSecurity e = omega arith
security_inside (WriteConfiguration i w) e = omega arith
security_inside (AddPermanent v) e = omega arith
