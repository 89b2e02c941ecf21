-- The reading, and what it stores. Assumes nothing.
use Rattle.script.proofs.Steps.{step_is, remark_is}
use Rattle.script.proofs.step.Goals as goal

pub returns : goal.returns
returns c = let s = c in
    let a = s.args in
    let e = s.advanced-q.ensures in
    record {
      outcome = step_is a.r a.b _ e a.frame.now a.expected.now a.known.now _ _ _ s.store.ensures c.store-2.ensures c.store-3.ensures;
      remarks = remark_is a.r a.b _ e a.remark.now _ c.store-4.ensures;
    }
