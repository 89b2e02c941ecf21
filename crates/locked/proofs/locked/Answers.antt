-- The block by its number. Assumes nothing.
use Rattle.locked.specs.Locked.{block_why}
use mathlib.Core.Path.{ap, ◌∙◌}
use Rattle.rules.specs.declared.Block.{Block}
use Rattle.rules.specs.Blocks.{block_at}
use Rattle.rules.proofs.Blocks.{block_placed}
use Rattle.locked.proofs.locked.Goals as goal

pub block-requires : goal.block-requires
block-requires c = let e = c.block_at.ensures in
    let p = block_placed c.locked_block-n.result c.locked_block-n.ensures.inside in
    rw e (p.inside, (p.some, p.lock))

pub returns : goal.returns
returns c = c.block.ensures ∙ ap (λ (b : Block). block_why b c.args.c.locks.permanent c.args.c.flags.wpld c.args.r) (c.block_at.ensures ∙ ap block_at c.locked_block-n.ensures.value)
