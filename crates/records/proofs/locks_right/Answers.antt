-- The four tests are the rule's. Assumes nothing.
use mathlib.Core.Path.{refl}
use Rattle.rules.specs.WellFormed.{locks_right}
use Rattle.records.proofs.locks_right.Goals as goal

pub returns : goal.returns
unfolding locks_right
returns c = refl
