-- By the number. Assumes nothing.
use Rattle.station_rows.specs.Stations.{chip_row}
use Rattle.station_rows.proofs.whys.of_chip.Goals as goal

pub returns-then-number : goal.returns-then-number
unfolding chip_row
returns-then-number c = rw (c.if-number.true, ← c.plain-r.ensures) c.reason.ensures

pub returns : goal.returns
unfolding chip_row
returns c = rw (c.if-number.false, ← c.plain-r.ensures) c.reason-2.ensures
