-- A work as a kind and a number.
use Rattle.std.specs.Prelude.{ℕ, ◌+◌, ◌*◌, Bool, not, ◌&&◌, ◌||◌, eqb, ltb}
use Rattle.rules.specs.declared.Work.{Work}
use Rattle.rules.specs.declared.Work.TheVariants.{Nothing, EraseSector, EraseBlock, EraseArray, ProgramPage, ProgramSecurity, LockSecurity, WriteConfiguration, AddPermanent}
use Rattle.rules.specs.Words.{bit, num, pick}

abbrev pub kind_of : Work → ℕ
kind_of Nothing = 0
kind_of (EraseSector n) = 1
kind_of (EraseBlock n) = 2
kind_of EraseArray = 3
kind_of (ProgramPage n) = 4
kind_of (ProgramSecurity n) = 5
kind_of LockSecurity = 6
kind_of (WriteConfiguration i w) = 7
kind_of (AddPermanent v) = 8

-- the sector, block or page; of a configuration, IOC and WPEN; of permanent bits, the bits
abbrev pub number_of : Work → ℕ
number_of Nothing = 0
number_of (EraseSector n) = n
number_of (EraseBlock n) = n
number_of EraseArray = 0
number_of (ProgramPage n) = n
number_of (ProgramSecurity n) = n
number_of LockSecurity = 0
number_of (WriteConfiguration i w) = num i + 2 * num w
number_of (AddPermanent v) = v

-- ---- the work of a kind and a number

-- one of the nine kinds; the number is 0 for nothing, the array and the Security ID lock, and below 4 for a configuration
abbrev pub work_right : ℕ → ℕ → Bool
work_right k n = ltb k 9 && (not (eqb k 0 || eqb k 3 || eqb k 6) || eqb n 0) && (not (eqb k 7) || ltb n 4)

unfoldable pub work_of : ℕ → ℕ → Work
work_of k n =
    pick (eqb k 1) (EraseSector n)
    (pick (eqb k 2) (EraseBlock n)
    (pick (eqb k 3) EraseArray
    (pick (eqb k 4) (ProgramPage n)
    (pick (eqb k 5) (ProgramSecurity n)
    (pick (eqb k 6) LockSecurity
    (pick (eqb k 7) (WriteConfiguration (bit 0 n) (bit 1 n))
    (pick (eqb k 8) (AddPermanent n)
    Nothing)))))))
