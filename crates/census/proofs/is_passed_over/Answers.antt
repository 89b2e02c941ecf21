-- Live, and some live slot of its number lies below. Assumes nothing.
use native.Mathlib.Omega.{arith}
use borrow.Author.Rules.{rules}
use borrow.Author.Tests.{tests}
use Rattle.std.proofs.lemmas.Iterator.{YieldsList-from_range}
use Rattle.std.proofs.lemmas.Iterator.Search.{any_from_yields_List}
use Rattle.stations.specs.Slots.{live_of}
use Rattle.slots.specs.Reads.{shown_of}
use Rattle.census.proofs.Numbers.{passed_not, passed_by_lem}
use Rattle.census.proofs.is_passed_over.Goals as goal

pub returns-then-is_live : goal.returns-then-is_live
returns-then-is_live c =
    passed_by_lem _ _ c.is_live.ensures c.if-is_live.true c.station_of-number.ensures
    (any_from_yields_List (live_of (shown_of c.args.read.now) c.station_of-number.result) _ _ _ c.any.ensures.ran (YieldsList-from_range 0 c.args.i c.args.i (cc) (omega arith)) (λ x b q k. search (rules, tests)))

pub returns-else-is_live : goal.returns-else-is_live
returns-else-is_live c = passed_not _ _ c.is_live.ensures c.if-is_live.false
