-- As in the rule. Assumes nothing.
use Rattle.judging.proofs.no_enable.Goals as goal

pub returns : goal.returns
returns c = rw c.is.ensures
