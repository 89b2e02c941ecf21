-- Both forms. Assumes nothing.
use Rattle.station_rows.specs.Stations.{counts_row}
use Rattle.station_rows.proofs.listings.counts_row.Goals as goal

pub returns : goal.returns
unfolding counts_row
returns c = rw (← c.below-r.ensures) c.form.ensures
