-- 01, A well-formed chip record: each sentence a test.
use Rattle.std.specs.Prelude.{ℕ, zero, suc, ◌^◌, Bool, true, not, ◌&&◌, ◌||◌, List, eqb, ltb, get_or}
use Rattle.std.specs.Int.Bits.{bit_and}
use Rattle.rules.specs.declared.Chip.{Chip}
use Rattle.rules.specs.declared.Locks.{Locks}
use Rattle.rules.specs.declared.Work.{Work}
use Rattle.rules.specs.declared.Work.TheVariants.{Nothing, EraseSector, EraseBlock, EraseArray, ProgramPage, ProgramSecurity, LockSecurity, WriteConfiguration, AddPermanent}
use Rattle.rules.specs.declared.Works.{Works}
use Rattle.rules.specs.Words.{overlap}
use Rattle.rules.specs.Blocks.{unlocked, read_locks}
use Rattle.rules.specs.Works.{is_nothing, is_erase, is_program, can_suspend, array_range}

-- page numbers below 8,192, in the Security ID below 8; erase ranges are a sector, a block or the array
abbrev pub numbers_right : Work → Bool
numbers_right Nothing = true
numbers_right (EraseSector n) = ltb n 512
numbers_right (EraseBlock n) = ltb n 40
numbers_right EraseArray = true
numbers_right (ProgramPage n) = ltb n 8192
numbers_right (ProgramSecurity n) = ltb n 8
numbers_right LockSecurity = true
numbers_right (WriteConfiguration i w) = true
numbers_right (AddPermanent v) = true

-- below 2^48, no permanent read lock, each permanent bit set in the protection register
unfoldable pub locks_right : Locks → Bool
locks_right l =
    ltb l.protection (2 ^ 48) && ltb l.permanent (2 ^ 48) && eqb (bit_and l.permanent read_locks) 0
    && eqb (bit_and l.permanent l.protection) l.permanent

-- suspended work is one sector or block erase or one page program
abbrev pub suspended_right_lem : Work → Bool
suspended_right_lem s = is_nothing s || can_suspend s

-- if something runs beside it, they do not overlap and are one erase and one program
abbrev pub beside_right : Work → Work → Bool
beside_right r s =
    is_nothing r || is_nothing s
    || (not (overlap (array_range r) (array_range s)) && (is_erase r && is_program s || is_program r && is_erase s))

-- the first n bytes of the buffer are FF
unfoldable pub first_ff : ℕ → List ℕ → Bool
first_ff zero b = true
first_ff (suc n) b = eqb (get_or b n 0) 0xFF && first_ff n b

-- running Security ID work has SEC 0; a running A5 of page 0 has FF in its first eight buffer bytes
abbrev pub security_right : Work → Bool → List ℕ → Bool
security_right Nothing sec b = true
security_right (EraseSector n) sec b = true
security_right (EraseBlock n) sec b = true
security_right EraseArray sec b = true
security_right (ProgramPage n) sec b = true
security_right (ProgramSecurity n) sec b = not sec && (not (eqb n 0) || first_ff 8 b)
security_right LockSecurity sec b = not sec
security_right (WriteConfiguration i w) sec b = true
security_right (AddPermanent v) sec b = true

-- the buffer is all FF when no program runs or is suspended
abbrev pub buffer_right : Work → Work → List ℕ → Bool
buffer_right r s b = is_program r || is_program s || first_ff 256 b

-- what is said of the work, under a protection register p
unfoldable pub works_right : ℕ → Bool → List ℕ → Works → Bool
works_right p sec b w =
    numbers_right w.running && numbers_right w.suspended && suspended_right_lem w.suspended && beside_right w.running w.suspended
    && unlocked p (array_range w.running) && unlocked p (array_range w.suspended) && security_right w.running sec b
    && buffer_right w.running w.suspended b

unfoldable pub well_formed : Chip → Bool
well_formed c = locks_right c.rest.locks && works_right c.rest.locks.protection c.rest.flags.sec c.buffer c.rest.works
