-- The block of a group has its lock among the 48 bits. Assumes nothing.
use Rattle.std.proofs.Common.{◌*◌, ◌%◌, ◌∙◌, ap, arith}
use Rattle.rules.specs.Blocks.{block_at, block_of}
use Rattle.rules.proofs.Blocks.{block_placed, block_of_lt}
use Rattle.rows.proofs.questions.lock_state.Goals as goal

pub locks-requires : goal.locks-requires
locks-requires c =
    let e = c.block_at.ensures ∙ ap block_at c.block_of-n.ensures in
    rw e (block_placed (block_of (c.args.g % 256 * 8192)) (block_of_lt (c.args.g % 256 * 8192) (omega arith))).lock
