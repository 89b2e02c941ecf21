-- As in the rule. Assumes nothing.
use Rattle.judging.proofs.wrong_length.Goals as goal

pub returns : goal.returns
returns c = rw c.least_length-least.ensures
