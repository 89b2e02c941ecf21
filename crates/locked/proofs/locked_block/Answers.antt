-- The first of all, or the one of the address. Assumes nothing.
use borrow.Author.Tests.{eq-eqb, ne_eqb}
use Rattle.locked.specs.Locked.{locked_block}
use mathlib.Core.Path.{ap, ◌∙◌}
use Rattle.writing.proofs.Picks.{yes, no}
use Rattle.rules.specs.Blocks.{block_of}
use Rattle.rules.proofs.Blocks.{block_of_lt}
use Rattle.locked.proofs.locked_block.Goals as goal

pub returns-then-op-eq199 : goal.returns-then-op-eq199
unfolding locked_block
returns-then-op-eq199 c = record { value = yes _ _ (eq-eqb _ _ c.if-op-eq199.true) c.first_locked.ensures.value; inside = c.first_locked.ensures.inside }

pub returns : goal.returns
unfolding locked_block
returns c = record { value = no _ _ (ne_eqb _ _ c.if-op-eq199.false) (c.block_of.ensures ∙ ap block_of c.address_of.ensures.value); inside = rw c.block_of.ensures (block_of_lt _ c.address_of.ensures.inside) }
