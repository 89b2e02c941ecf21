-- The k-th that the chain gives. Assumes nothing.
use mathlib.Core.Path.{refl}
use native.Mathlib.Omega.{arith}
use borrow.Author.Rules.{rules}
use borrow.Author.Tests.{tests}
use Rattle.std.proofs.lemmas.Iterator.{YieldsList-from_range}
use Rattle.std.proofs.lemmas.Iterator.Consumers.{YieldsList-from_filter, nth_from_yields_List}
use Rattle.stations.specs.Slots.{live_of}
use Rattle.slots.specs.Reads.{shown_of}
use Rattle.census.proofs.Numbers.{nth_found}
use Rattle.census.proofs.live_at.Goals as goal

pub returns : goal.returns
returns c =
    nth_found (live_of (shown_of c.args.read.now) c.args.number) c.args.k 2048 refl c.nth.result
    (nth_from_yields_List c.nth.result _ c.args.k c.nth.ensures.ran
    (YieldsList-from_filter _ (live_of (shown_of c.args.read.now) c.args.number) (YieldsList-from_range 0 2048 2048 (cc) (omega arith)) c.filter.ensures.closure (λ x b q k. search (rules, tests))))
