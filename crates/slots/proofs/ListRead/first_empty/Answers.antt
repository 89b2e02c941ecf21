-- As the search through all slots gives it. Assumes nothing.
use native.Mathlib.Omega.{arith}
use borrow.Author.Rules.{rules}
use borrow.Author.Tests.{tests}
use Rattle.std.proofs.lemmas.Iterator.{YieldsList-from_range}
use Rattle.std.proofs.lemmas.Iterator.Search.{find_from_yields_List}
use Rattle.stations.specs.Slots.{empty, free_slot}
use Rattle.slots.specs.Reads.{shown_of}
use Rattle.slots.proofs.Slots.{slot_found}
use Rattle.slots.proofs.ListRead.first_empty.Goals as goal

pub returns : goal.returns
unfolding free_slot
returns c =
    let t = empty (shown_of c.args.self.now) in
    slot_found t 0 2048 (omega arith) c.find.result (find_from_yields_List t _ _ c.find.result c.find.ensures.ran (YieldsList-from_range 0 2048 2048 (cc) (omega arith)) (λ x b q k. search (rules, tests)))
