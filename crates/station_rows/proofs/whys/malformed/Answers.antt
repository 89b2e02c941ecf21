-- The chip's lengths. Assumes nothing.
use Rattle.station_rows.specs.Stations.{length_row}
use Rattle.station_rows.proofs.whys.malformed.Goals as goal

pub returns : goal.returns
unfolding length_row
returns c = rw (← c.plain-r.ensures) c.malformed.ensures
