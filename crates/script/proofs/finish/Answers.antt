-- The reading, and what it stores. Assumes nothing.
use Rattle.script.proofs.Steps.{step_is}
use Rattle.script.proofs.finish.Goals as goal

pub returns : goal.returns
returns c = let s = c in
    let a = s.args in
    record {
      outcome = step_is a.r 10 _ s.advanced-q.ensures a.frame.now a.expected.now a.known.now _ _ _ s.store.ensures c.store-2.ensures c.store-3.ensures;
    }
