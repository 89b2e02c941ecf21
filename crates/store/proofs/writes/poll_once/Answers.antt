-- The completion where it arrives, then a status frame. Assumes nothing.
use Rattle.store.proofs.Steps.{calmly, polls_once}
use Rattle.store.proofs.writes.poll_once.Goals as goal

pub returns : goal.returns
returns c = polls_once c.arrived-ready.ensures (calmly c.calm-x.ensures c.frame-after.ensures)
