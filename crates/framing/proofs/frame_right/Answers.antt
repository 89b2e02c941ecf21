-- Three tests, in their order. Assumes nothing.
use mathlib.Core.Path.{refl}
use Rattle.framing.proofs.frame_right.Goals as goal

pub returns : goal.returns
returns c = refl
