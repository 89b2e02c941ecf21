-- The data, the allowance, then what the chip says. Assumes nothing.
use borrow.Author.Tests.{eq-eqb, ne_eqb, lt-ltb, le-ltb}
use Rattle.station_rows.specs.Stations.{length_row}
use Rattle.station_rows.proofs.whys.store_length.Goals as goal

pub returns-then-size-ne28 : goal.returns-then-size-ne28
unfolding length_row
returns-then-size-ne28 c = rw (ne_eqb _ _ c.if-size-ne28.true) c.below.ensures

pub returns-then-allowance-gt65535 : goal.returns-then-allowance-gt65535
unfolding length_row
returns-then-allowance-gt65535 c = rw (eq-eqb _ _ c.if-size-ne28.false, lt-ltb _ _ c.if-allowance-gt65535.true) c.below-then-allowance-gt65535.ensures

pub returns : goal.returns
unfolding length_row
returns c = rw (eq-eqb _ _ c.if-size-ne28.false, le-ltb _ _ c.if-allowance-gt65535.false) c.malformed.ensures
