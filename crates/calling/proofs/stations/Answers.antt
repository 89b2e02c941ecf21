-- The list is told where the read is done. Assumes nothing.
use borrow.Author.Tests.{eq-eqb, ne_eqb}
use Rattle.calling.proofs.Ends.{stations_shown, stations_refused}
use Rattle.calling.proofs.stations.Goals as goal

pub returns-then-number-eq0 : goal.returns-then-number-eq0
returns-then-number-eq0 c = stations_shown _ _ _ _ _ _ _ _ _ _ c.answered-playing.ensures (eq-eqb _ _ c.if-number-eq0.true) c.list_shown-account.ensures c.shown-number.ensures

pub returns : goal.returns
returns c = stations_refused _ _ _ _ _ _ _ _ _ _ c.answered-playing.ensures (ne_eqb _ _ c.if-number-eq0.false) (rw (← c.no_verdict-v.ensures) c.account_of-account.ensures) c.shown-number.ensures
