-- As in the rule. Assumes nothing.
use Rattle.judging.proofs.while_busy.Goals as goal

pub returns : goal.returns
returns c = rw (c.passes_busy.ensures, c.is_nothing.ensures)
