-- A word is filled up, other data are sent as they are. Assumes nothing.
use Rattle.calls.proofs.Copies.{data_text, data_plain}
use Rattle.calls.proofs.lent.sent.Goals as goal

pub returns-then-slots-bytes : goal.returns-then-slots-bytes
returns-then-slots-bytes c = rw (data_text c.args.slots c.args.bytes.now c.if-slots-bytes.true, ← c.put_text.ensures.1) c.stored.ensures

pub returns : goal.returns
returns c = rw (data_plain c.args.slots c.args.bytes.now c.if-slots-bytes.false) c.stored-2.ensures
