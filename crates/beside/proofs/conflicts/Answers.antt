-- With nothing suspended two opcodes are left. Assumes nothing.
use mathlib.Core.Path.{sym, ◌∙◌}
use Rattle.beside.proofs.Clauses.{none_beside}
use Rattle.beside.proofs.conflicts.Goals as goal

pub returns-then-is_nothing : goal.returns-then-is_nothing
returns-then-is_nothing c = rw (c.is-then-is_nothing.ensures, c.can_suspend.ensures, c.is.ensures) (none_beside c.args.r c.args.op c.args.sent.now (sym c.is_nothing.ensures ∙ c.if-is_nothing.true))

pub returns : goal.returns
returns c = c.conflicts_beside.ensures
