-- By the number. Assumes nothing.
use borrow.Author.Tests.{eq-eqb, ne_eqb}
use Rattle.station_rows.specs.Stations.{number_row}
use Rattle.station_rows.proofs.whys.number.Goals as goal

pub returns-then-number-eq0 : goal.returns-then-number-eq0
unfolding number_row
returns-then-number-eq0 c = rw (eq-eqb _ _ c.if-number-eq0.true) c.empty.ensures

pub returns : goal.returns
unfolding number_row
returns c = rw (ne_eqb _ _ c.if-number-eq0.false, ← c.number_form.ensures) c.below.ensures
