-- By the call. Assumes nothing.
use Rattle.station_rows.specs.Stations.{head_row}
use Rattle.station_rows.proofs.heads.row.Goals as goal

pub returns-in-Store : goal.returns-in-Store
unfolding head_row
returns-in-Store c = rw (c.in-Store.is) c.store.ensures

pub returns-in-Find : goal.returns-in-Find
unfolding head_row
returns-in-Find c = rw (c.in-Find.is) c.find.ensures

pub returns-in-Stations : goal.returns-in-Stations
unfolding head_row
returns-in-Stations c = rw (c.in-Stations.is) c.stations.ensures
