-- The two tests of the rule. Assumes nothing.
use mathlib.Core.Path.{refl}
use Rattle.rules.specs.Words.{holds}
use Rattle.blocks.proofs.holds_place.Goals as goal

pub returns : goal.returns
unfolding holds
returns c = refl
