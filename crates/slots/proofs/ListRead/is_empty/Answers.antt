-- Each of the slot's bytes is FF. Assumes nothing.
use mathlib.Core.Path.{◌∙◌}
use lib.Dec.{eqb}
use borrow.Author.Rules.{rules}
use borrow.Author.Tests.{tests}
use Rattle.std.proofs.lemmas.Iterator.{YieldsList-from_slice}
use Rattle.std.proofs.lemmas.Iterator.Search.{all_from_yields_List}
use Rattle.stations.specs.Slots.{empty, byte_of}
use Rattle.slots.specs.Reads.{shown_of}
use Rattle.slots.proofs.Slots.{all_of_them}
use Rattle.slots.proofs.ListRead.is_empty.Goals as goal

pub returns : goal.returns
unfolding empty
returns c =
    all_from_yields_List (λ b. eqb b 0xFF) _ _ _ c.all.ensures.ran (YieldsList-from_slice c.slot.result.now (cc)) (λ x b q k. search (rules, tests))
    ∙ all_of_them (λ b. eqb b 0xFF) (byte_of (shown_of c.args.self.now) c.args.i) c.slot.result.now 32 c.slot.ensures.size c.slot.ensures.bytes
