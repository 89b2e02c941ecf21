-- One frame of the chip, with no tear and one reply byte. Assumes nothing.
use Rattle.store.proofs.Steps.{calmly, sends_one}
use Rattle.store.proofs.writes.send.Goals as goal

pub returns : goal.returns
returns c = sends_one (calmly c.calm-x.ensures c.frame.ensures)
