-- By the number. Assumes nothing.
use borrow.Author.Tests.{eq-eqb, ne_eqb}
use Rattle.station_rows.proofs.listings.counts_told.Goals as goal

pub returns-then-number-eq0 : goal.returns-then-number-eq0
returns-then-number-eq0 c = rw (eq-eqb _ _ c.if-number-eq0.true) c.counts_row.ensures

pub returns : goal.returns
returns c = rw (ne_eqb _ _ c.if-number-eq0.false) c.empty.ensures
