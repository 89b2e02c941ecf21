-- C7, the four that go to one block, and the others. Assumes nothing.
use Rattle.judging.proofs.is_locked.Goals as goal

pub returns-then-op-eq199 : goal.returns-then-op-eq199
returns-then-op-eq199 c = rw c.if-op-eq199.true
