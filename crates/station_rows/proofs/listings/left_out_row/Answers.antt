-- More are found than are shown. Assumes nothing.
use mathlib.Core.Bool.{◌&&◌}
use lib.Dec.{eqb, ltb}
use borrow.Author.Tests.{ltb-true}
use Rattle.rules.proofs.Bools.{and_split}
use Rattle.station_rows.specs.Stations.{left_out_row}
use native.Mathlib.Omega.{arith}
use Rattle.station_rows.proofs.listings.left_out_row.Goals as goal

pub overflow_sub-n : goal.overflow_sub-n
overflow_sub-n c = let h = ltb-true 32 c.station_count-n.result (and_split (eqb (c.args.number) 0 && ltb (c.args.cut) 2048) (ltb 32 c.station_count-n.result) c.if-number-cut.true).1 in omega arith

pub returns-then-number-cut : goal.returns-then-number-cut
unfolding left_out_row
returns-then-number-cut c = rw (← c.station_count-n.ensures, c.if-number-cut.true) c.below.ensures

pub returns : goal.returns
unfolding left_out_row
returns c = rw (← c.station_count-n.ensures, c.if-number-cut.false) c.empty.ensures
