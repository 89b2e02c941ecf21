-- A block lies within the array. Assumes nothing.
use Rattle.std.proofs.Common.{◌%◌, arith}
use Rattle.rules.proofs.Blocks.{block_placed}
use Rattle.describing.proofs.works.span_of.Goals as goal

pub returns-in-EraseBlock-clause-inside : goal.returns-in-EraseBlock-clause-inside
returns-in-EraseBlock-clause-inside c = rw (c.in_array-in-EraseBlock.ensures, c.block_at-b.ensures) (block_placed (c.in-EraseBlock.n % 40) (omega arith)).inside
