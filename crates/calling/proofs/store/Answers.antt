-- What the call left, and what of the line is not met. Assumes nothing.
use Rattle.calling.proofs.Ends.{store_is}
use Rattle.calling.proofs.store.Goals as goal

pub returns : goal.returns
returns c = store_is _ _ _ _ _ _ _ _ _ _ _ _ c.sent-r.result c.store_judged-v.result c.station_of-station.ensures c.ended-playing.ensures _ c.allowance_of-allowance.ensures c.list_of-list.ensures c.writes_ended-writes.ensures c.account_of-account.ensures c.sent-r.ensures c.store_judged-v.ensures
