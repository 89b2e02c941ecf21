-- Of the read. Assumes nothing.
use Rattle.station_rows.proofs.whys.counted.Goals as goal

pub returns : goal.returns
returns c = rw (← c.counted.ensures) c.counts_row.ensures
