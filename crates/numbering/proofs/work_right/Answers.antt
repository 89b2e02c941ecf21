-- The tests are the layout's. Assumes nothing.
use mathlib.Core.Path.{refl}
use Rattle.numbering.proofs.work_right.Goals as goal

pub returns : goal.returns
returns c = refl
