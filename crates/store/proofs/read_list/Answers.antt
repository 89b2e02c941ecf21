-- One frame of the chip, with no tear. Assumes nothing.
use Rattle.store.proofs.Steps.{calmly}
use Rattle.store.proofs.read_list.Goals as goal

pub returns : goal.returns
returns c = calmly c.calm-x.ensures c.frame.ensures
