-- By the number. Assumes nothing.
use borrow.Author.Tests.{eq-eqb, ne_eqb}
use Rattle.station_rows.specs.Stations.{refused_on}
use Rattle.station_rows.proofs.heads.refused.Goals as goal

pub returns-then-number-eq18 : goal.returns-then-number-eq18
unfolding refused_on
returns-then-number-eq18 c = rw (eq-eqb _ _ c.if-number-eq18.true, ← c.form-r.ensures) c.form.ensures

pub returns : goal.returns
unfolding refused_on
returns c = rw (ne_eqb _ _ c.if-number-eq18.false) c.form-r.ensures
