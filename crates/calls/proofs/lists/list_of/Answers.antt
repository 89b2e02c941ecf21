-- An entry at each place. Assumes nothing.
use borrow.Author.Rules.{rules}
use borrow.Author.Tests.{tests}
use Rattle.calls.specs.Lists.{entry_at, list_of}
use Rattle.calls.proofs.Entries.{filled}
use Rattle.calls.proofs.lists.list_of.Goals as goal

pub returns : goal.returns
unfolding list_of
returns c = filled _ (entry_at _ c.args.high.now c.args.low.now) _ (λ i y q k. search (rules, tests)) c.from_fn.result 2050 c.from_fn.ensures.items
