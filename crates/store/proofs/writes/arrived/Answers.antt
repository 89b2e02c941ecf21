-- The chip's completion, or nothing. Assumes nothing.
use Rattle.store.proofs.Steps.{arrives_now, arrives_not}
use Rattle.store.proofs.writes.arrived.Goals as goal

pub returns-then-arrives : goal.returns-then-arrives
returns-then-arrives c = arrives_now c.if-arrives.true c.completion-after.ensures

pub returns : goal.returns
returns c = arrives_not c.if-arrives.false
