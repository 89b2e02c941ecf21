-- The write lock of the block that holds the place. Assumes nothing.
use native.Mathlib.Omega.{arith}
use Rattle.blocks.proofs.Shape.{number_small, lock_small, write_lock}
use Rattle.blocks.proofs.write_locked.Goals as goal

pub block_at-b-requires : goal.block_at-b-requires
block_at-b-requires c = number_small c.args.a _ c.requires c.block_of.ensures

pub bit_at-requires : goal.bit_at-requires
bit_at-requires c =
    let l = lock_small _ _ (number_small c.args.a _ c.requires c.block_of.ensures) c.block_at-b.ensures in
    omega arith

pub returns : goal.returns
returns c =
    let s = c in
    write_lock s.args.p s.args.a _ _ _ c.block_of.ensures c.block_at-b.ensures c.bit_at.ensures
