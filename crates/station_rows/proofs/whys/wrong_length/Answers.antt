-- By the call. Assumes nothing.
use Rattle.station_rows.specs.Stations.{length_row}
use Rattle.station_rows.proofs.whys.wrong_length.Goals as goal

pub returns-in-Store : goal.returns-in-Store
returns-in-Store c = rw (c.in-Store.is) c.store_length.ensures

pub returns-in-Find : goal.returns-in-Find
unfolding length_row
returns-in-Find c = rw (c.in-Find.is) c.malformed.ensures

pub returns-in-Stations : goal.returns-in-Stations
unfolding length_row
returns-in-Stations c = rw (c.in-Stations.is) c.malformed-in-Stations.ensures
