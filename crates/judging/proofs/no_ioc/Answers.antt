-- As in the rule. Assumes nothing.
use Rattle.judging.proofs.no_ioc.Goals as goal

pub returns : goal.returns
returns c = rw c.needs_ioc.ensures
