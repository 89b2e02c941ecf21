-- A sector, a page and a block lie in one block, whose lock is the range's; the array has every lock; no place has none. Assumes nothing.
use mathlib.Core.Path.{ap}
use Rattle.rules.specs.declared.Block.{Block}
use Rattle.blocks.proofs.Grouped.{no_array}
use Rattle.blocks.proofs.Ranges.{sector_number, block_number, page_number, unlocked_sector, unlocked_page, unlocked_block, unlocked_array, unlocked_none}
use Rattle.rules.proofs.Blocks.{block_placed}
use borrow.Enum.Refused.{opened}
use native.Mathlib.Omega.{arith}
use Rattle.blocks.proofs.is_unlocked.Goals as goal

pub overflow_mul-n : goal.overflow_mul-n
overflow_mul-n c = let h = sector_number c.args.w _ c.in-EraseSector.is c.requires.0 in omega arith

pub write_locked-requires : goal.write_locked-requires
write_locked-requires c = let h = sector_number c.args.w _ c.in-EraseSector.is c.requires.0 in omega arith

pub block_at-b-requires : goal.block_at-b-requires
block_at-b-requires c = block_number c.args.w _ c.in-EraseBlock.is c.requires.0

pub bit_at-requires : goal.bit_at-requires
bit_at-requires c = let n = block_number c.args.w _ c.in-EraseBlock.is c.requires.0 in
    let f = (block_placed _ n).lock in
    let e = ap (λ (b : Block). b.write) c.block_at-b.ensures in
    omega arith

pub overflow_mul-n-in-ProgramPage : goal.overflow_mul-n-in-ProgramPage
overflow_mul-n-in-ProgramPage c = let h = page_number c.args.w _ c.in-ProgramPage.is c.requires.0 in omega arith

pub write_locked-requires-in-ProgramPage : goal.write_locked-requires-in-ProgramPage
write_locked-requires-in-ProgramPage c = let h = page_number c.args.w _ c.in-ProgramPage.is c.requires.0 in omega arith

pub returns-in-EraseSector : goal.returns-in-EraseSector
returns-in-EraseSector c = let a = c in
    unlocked_sector a.args.p _ a.args.w _ c.in-EraseSector.is a.requires.0 c.write_locked.ensures

pub returns-in-EraseBlock : goal.returns-in-EraseBlock
returns-in-EraseBlock c = let a = c in
    unlocked_block a.args.p _ _ a.args.w _ c.in-EraseBlock.is a.requires.0 c.block_at-b.ensures c.bit_at.ensures

pub returns-in-EraseArray : goal.returns-in-EraseArray
returns-in-EraseArray c = let a = c in unlocked_array a.args.p a.args.w c.in-EraseArray.is a.requires.1

pub returns-in-ProgramPage : goal.returns-in-ProgramPage
returns-in-ProgramPage c = let a = c in
    unlocked_page a.args.p _ a.args.w _ c.in-ProgramPage.is a.requires.0 c.write_locked-in-ProgramPage.ensures

pub returns-in_default : goal.returns-in_default
returns-in_default c = unlocked_none c.args.p c.args.w (no_array c.args.w (opened c.in_default.in_default-own.keys5))
