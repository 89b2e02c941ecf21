-- Erases and page programs patch their range; other work leaves the array. Assumes nothing.
use Rattle.rules.specs.Works.{array_range, tear_of}
use Rattle.blocks.proofs.Grouped.{no_array}
use Rattle.blocks.proofs.Ranges.{sector_number, block_number, page_number}
use Rattle.memory.proofs.Finishes.{finishes, finishes_none, finishes_block, block_fits}
use native.Mathlib.Omega.{arith}
use borrow.Enum.Refused.{opened}
use Rattle.memory.proofs.finish_array.Goals as goal

pub overflow_mul-n : goal.overflow_mul-n
overflow_mul-n c =
    let h = sector_number _ _ c.in-EraseSector.is c.requires.0 in
    omega arith

pub erase-requires : goal.erase-requires
erase-requires c =
    let h = sector_number _ _ c.in-EraseSector.is c.requires.0 in
    let l = c.requires.1.0 in
    omega arith

pub block_at-b-requires : goal.block_at-b-requires
block_at-b-requires c = block_number _ _ c.in-EraseBlock.is c.requires.0

pub erase-requires-in-EraseBlock : goal.erase-requires-in-EraseBlock
erase-requires-in-EraseBlock c =
    let h = block_fits _ _ (block_number _ _ c.in-EraseBlock.is c.requires.0) c.block_at-b.ensures in
    let l = c.requires.1.0 in
    omega arith

pub overflow_mul-n-in-ProgramPage : goal.overflow_mul-n-in-ProgramPage
overflow_mul-n-in-ProgramPage c =
    let h = page_number _ _ c.in-ProgramPage.is c.requires.0 in
    omega arith

pub program-requires : goal.program-requires
program-requires c =
    let h = page_number _ _ c.in-ProgramPage.is c.requires.0 in
    let l = c.requires.1 in
    (omega arith, l.1)

pub returns-in-EraseSector : goal.returns-in-EraseSector
returns-in-EraseSector c =
    let a = c.args in
    finishes array_range a.w _ (tear_of a.k a.m) a.page.now _ a.array.now c.in-EraseSector.is c.erase.ensures

pub returns-in-EraseBlock : goal.returns-in-EraseBlock
returns-in-EraseBlock c =
    let a = c.args in
    finishes_block a.w _ (tear_of a.k a.m) _ a.page.now _ a.array.now c.in-EraseBlock.is c.block_at-b.ensures c.erase-in-EraseBlock.ensures

pub returns-in-EraseArray : goal.returns-in-EraseArray
returns-in-EraseArray c =
    let a = c.args in
    finishes array_range a.w _ (tear_of a.k a.m) a.page.now _ a.array.now c.in-EraseArray.is c.erase-in-EraseArray.ensures

pub returns-in-ProgramPage : goal.returns-in-ProgramPage
returns-in-ProgramPage c =
    let a = c.args in
    finishes array_range a.w _ (tear_of a.k a.m) a.page.now _ a.array.now c.in-ProgramPage.is c.program.ensures

pub returns-in_default : goal.returns-in_default
returns-in_default c = let a = c.args in
    finishes_none array_range a.w (tear_of a.k a.m) a.page.now a.array.now (no_array a.w (opened c.in_default.in_default-own.keys5))
