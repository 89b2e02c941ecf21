-- As many as the chain takes. Assumes nothing.
use native.Mathlib.Omega.{arith}
use borrow.Author.Rules.{rules}
use borrow.Author.Tests.{tests}
use Rattle.std.proofs.lemmas.Iterator.{YieldsList-from_slice}
use Rattle.std.proofs.lemmas.Iterator.Search.{YieldsList-from_take_while}
use Rattle.std.proofs.lemmas.Iterator.Consumers.{count_from_yields_List}
use Rattle.stations.specs.Given.{in_time}
use Rattle.calls.specs.Lists.{writes_ended}
use Rattle.calls.proofs.Entries.{ended_in_time}
use Rattle.calls.proofs.lists.writes_ended.Goals as goal

pub returns : goal.returns
unfolding writes_ended
returns c =
    ended_in_time c.args.allowance c.args.list.now 2050 (omega arith)
    (count_from_yields_List c.take_while.result c.count.result c.count.ensures.ran
    (YieldsList-from_take_while _ (in_time c.args.allowance) (YieldsList-from_slice c.args.list.now (cc)) c.take_while.ensures.closure c.take_while.ensures.done (λ x b q k. search (rules, tests))))
