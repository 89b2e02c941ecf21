-- Where lookup finds it. Assumes nothing.
use Rattle.station_rows.specs.Stations.{found_slot_row}
use Rattle.station_rows.proofs.listings.found_slot_row.Goals as goal

pub returns-then-is_found : goal.returns-then-is_found
unfolding found_slot_row
returns-then-is_found c = rw (← c.is_found.ensures, c.if-is_found.true) c.slot_row.ensures

pub returns : goal.returns
unfolding found_slot_row
returns c = rw (← c.is_found.ensures, c.if-is_found.false) c.empty.ensures
