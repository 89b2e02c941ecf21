-- The read lock of the block that holds the place, if it has one. Assumes nothing.
use native.Mathlib.Omega.{arith}
use Rattle.blocks.proofs.Shape.{number_small, lock_small, read_lock}
use Rattle.blocks.proofs.read_locked.Goals as goal

pub block_at-b-requires : goal.block_at-b-requires
block_at-b-requires c = number_small c.args.a _ c.requires c.block_of.ensures

pub overflow_add-b : goal.overflow_add-b
overflow_add-b c =
    let s = c in
    let l = lock_small _ _ (number_small s.args.a _ s.requires c.block_of.ensures) c.block_at-b.ensures in
    omega arith

pub bit_at-requires : goal.bit_at-requires
bit_at-requires c =
    let s = c in
    let l = lock_small _ _ (number_small s.args.a _ s.requires c.block_of.ensures) c.block_at-b.ensures in
    omega arith

pub returns : goal.returns
returns c =
    let s = c in
    read_lock s.args.p s.args.a _ _ _ c.block_of.ensures c.block_at-b.ensures c.bit_at.ensures
