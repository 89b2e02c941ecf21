-- By the number. Assumes nothing.
use borrow.Author.Tests.{eq-eqb, ne_eqb}
use Rattle.station_rows.specs.Stations.{stations_head}
use Rattle.station_rows.proofs.heads.stations.Goals as goal

pub returns-then-number-eq0 : goal.returns-then-number-eq0
unfolding stations_head
returns-then-number-eq0 c = rw (eq-eqb _ _ c.if-number-eq0.true, ← c.headed-r.ensures, ← c.station_count-n.ensures) c.form.ensures

pub returns : goal.returns
unfolding stations_head
returns c = rw (ne_eqb _ _ c.if-number-eq0.false, ← c.headed-r.ensures) c.form-2.ensures
