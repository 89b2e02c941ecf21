-- Another length is refused; else the record is that of the power-up state. Assumes nothing.
use Rattle.bench.proofs.Calls.{new_refused, new_done}
use Rattle.bench.proofs.new_of.Goals as goal

pub returns-then-bytes-ne320 : goal.returns-then-bytes-ne320
returns-then-bytes-ne320 c = let a = c.args in new_refused a.ba a.bytes.now c.if-bytes-ne320.true

pub returns : goal.returns
returns c =
    let a = c.args in
    new_done a.ba a.bytes.now _ _ c.if-bytes-ne320.false c.new_rest-rest.ensures c.put_idle.ensures
