-- As the search from that slot on gives it. Assumes nothing.
use Prim.Native.Nat.{◌-◌}
use mathlib.Core.Path.{refl}
use native.Mathlib.Omega.{arith}
use borrow.Author.Rules.{rules}
use borrow.Author.Tests.{tests}
use Rattle.std.proofs.lemmas.Iterator.{YieldsList-from_range}
use Rattle.std.proofs.lemmas.Iterator.Search.{find_from_yields_List}
use Rattle.stations.specs.Slots.{first_from, live_of}
use Rattle.slots.specs.Reads.{shown_of, IsSlot}
use Rattle.slots.proofs.Slots.{slot_found, found_behind}
use Rattle.slots.proofs.ListRead.live_from.Goals as goal

pub returns : goal.returns
returns c =
    let found : IsSlot (first_from (live_of (shown_of c.args.self.now) c.args.number) c.args.from (2048 - c.args.from)) c.find.result =
    slot_found _ c.args.from (2048 - c.args.from) (omega arith) c.find.result
    (find_from_yields_List (live_of (shown_of c.args.self.now) c.args.number) _ _ c.find.result c.find.ensures.ran (YieldsList-from_range c.args.from 2048 (2048 - c.args.from) (cc) refl) (λ x b q k. search (rules, tests))) in
    record { slot = found; within = found_behind _ _ _ _ found }
