-- By the event. Assumes nothing.
use mathlib.Core.Path.{refl}
use Rattle.rules.specs.Machine.{completion, power_cut}
use Rattle.lending.proofs.Happenings.{no_reply}
use Rattle.lending.proofs.happened.Goals as goal

pub returns-in-Frame : goal.returns-in-Frame
returns-in-Frame c = rw c.in-Frame.is c.sent.ensures

pub returns-in-Completion : goal.returns-in-Completion
unfolding completion
returns-in-Completion c = rw c.in-Completion.is (no_reply _ _ _ _ _ _ _ _ _ refl refl c.ended.ensures)

pub returns-in-Cut : goal.returns-in-Cut
unfolding power_cut
returns-in-Cut c = let a = c.args in rw c.in-Cut.is (no_reply _ _ _ _ _ _ _ _ _ refl refl (rw c.tear_of.ensures at c.cut.ensures))
