-- As many as are shown. Assumes nothing.
use Rattle.station_rows.specs.Stations.{station_row}
use Rattle.station_rows.proofs.listings.station_row.Goals as goal

pub returns-then-number-i : goal.returns-then-number-i
unfolding station_row
returns-then-number-i c = rw c.if-number-i.true c.found_slot_row.ensures

pub returns : goal.returns
unfolding station_row
returns c = rw c.if-number-i.false c.empty.ensures
