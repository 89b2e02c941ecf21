-- A5, and the others. Assumes nothing.
use borrow.Author.Tests.{ne_eqb}
use Rattle.judging.proofs.Judged.{closed_other}
use Rattle.judging.proofs.is_closed.Goals as goal

pub returns-then-op-eq165 : goal.returns-then-op-eq165
returns-then-op-eq165 c = rw (c.reaches_first.ensures, c.if-op-eq165.true)

pub returns : goal.returns
returns c = rw (c.to_security.ensures, c.changes_locks.ensures) (closed_other c.args.r c.args.op c.args.sent.now (ne_eqb _ _ c.if-op-eq165.false))
