-- The lock's bit lies in the word. Assumes nothing.
use mathlib.Core.Path.{ap, ◌∙◌}
use native.Mathlib.Omega.{arith}
use Rattle.rules.specs.declared.Block.{Block}
use Rattle.rules.specs.Words.{bit}
use Rattle.rules.proofs.Blocks.{block_placed}
use Rattle.locked.proofs.is_locked.Goals as goal

pub bit_at-requires : goal.bit_at-requires
bit_at-requires c =
    let b = (block_placed c.args.n c.requires).lock in
    rw c.block_at.ensures (omega arith)

pub returns : goal.returns
returns c = c.bit_at.ensures ∙ ap (λ (x : Block). bit x.write c.args.p) c.block_at.ensures
