-- By the number. Assumes nothing.
use borrow.Author.Tests.{eq-eqb, ne_eqb}
use Rattle.station_rows.specs.Stations.{why_row}
use Rattle.station_rows.proofs.whys.why.Goals as goal

pub returns-then-number : goal.returns-then-number
unfolding why_row
returns-then-number c = rw c.if-number.true c.empty.ensures

pub returns-then-number-eq1 : goal.returns-then-number-eq1
unfolding why_row
returns-then-number-eq1 c = rw (c.if-number.false, eq-eqb _ _ c.if-number-eq1.true) c.wrong_length.ensures

pub returns-then-number-eq16 : goal.returns-then-number-eq16
unfolding why_row
returns-then-number-eq16 c = rw (c.if-number.false, ne_eqb _ _ c.if-number-eq1.false, eq-eqb _ _ c.if-number-eq16.true) c.counted.ensures

pub returns-then-number-eq18 : goal.returns-then-number-eq18
unfolding why_row
returns-then-number-eq18 c = rw (c.if-number.false, ne_eqb _ _ c.if-number-eq1.false, ne_eqb _ _ c.if-number-eq16.false, eq-eqb _ _ c.if-number-eq18.true) c.running.ensures

pub returns : goal.returns
unfolding why_row
returns c = rw (c.if-number.false, ne_eqb _ _ c.if-number-eq1.false, ne_eqb _ _ c.if-number-eq16.false, ne_eqb _ _ c.if-number-eq18.false) c.of_chip.ensures
