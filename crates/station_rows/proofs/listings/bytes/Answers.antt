-- By the call. Assumes nothing.
use Rattle.station_rows.specs.Stations.{bytes_row}
use Rattle.station_rows.proofs.listings.bytes.Goals as goal

pub returns-in-Store : goal.returns-in-Store
unfolding bytes_row
returns-in-Store c = rw (c.in-Store.is) c.empty.ensures

pub returns-in-Find : goal.returns-in-Find
unfolding bytes_row
returns-in-Find c = rw (c.in-Find.is) c.found_row.ensures

pub returns-in-Stations : goal.returns-in-Stations
returns-in-Stations c = rw (c.in-Stations.is) c.list_row.ensures
