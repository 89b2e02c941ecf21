-- By arithmetic: the page, the first place and the last. Assumes nothing.
use Rattle.judging.proofs.Reaches.{reaches_first_lem}
use Rattle.judging.proofs.Judged.{no_data}
use Rattle.judging.proofs.reaches_first.Goals as goal

pub returns-then-sent-lt4 : goal.returns-then-sent-lt4
returns-then-sent-lt4 c = no_data c.args.sent.now c.if-sent-lt4.true

pub returns : goal.returns
returns c = rw c.security_address_of-a.ensures.value (reaches_first_lem c.args.sent.now c.if-sent-lt4.false)
