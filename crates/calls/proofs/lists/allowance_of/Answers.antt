-- By whether polls stands. Assumes nothing.
use borrow.Author.Tests.{eq-eqb, ne_eqb}
use Rattle.calls.specs.Lists.{allowance_of}
use Rattle.calls.proofs.lists.allowance_of.Goals as goal

pub returns-then-slots-eq0 : goal.returns-then-slots-eq0
unfolding allowance_of
returns-then-slots-eq0 c = rw (eq-eqb _ _ c.if-slots-eq0.true)

pub returns : goal.returns
unfolding allowance_of
returns c = rw (ne_eqb _ _ c.if-slots-eq0.false)
