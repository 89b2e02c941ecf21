-- By the call. Assumes nothing.
use Rattle.station_rows.specs.Stations.{more_row}
use Rattle.station_rows.proofs.listings.more.Goals as goal

pub returns-in-Store : goal.returns-in-Store
unfolding more_row
returns-in-Store c = rw (c.in-Store.is) c.empty.ensures

pub returns-in-Find : goal.returns-in-Find
unfolding more_row
returns-in-Find c = rw (c.in-Find.is) c.empty-in-Find.ensures

pub returns-in-Stations : goal.returns-in-Stations
unfolding more_row
returns-in-Stations c = rw (c.in-Stations.is) c.counts_told.ensures
