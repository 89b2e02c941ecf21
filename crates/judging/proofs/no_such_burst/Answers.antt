-- As in the rule. Assumes nothing.
use Rattle.judging.proofs.no_such_burst.Goals as goal

pub returns : goal.returns
returns c = rw (c.is.ensures, c.sent_byte.ensures.value)
