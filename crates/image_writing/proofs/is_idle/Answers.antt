use mathlib.Core.Bool.{◌&&◌}
use Rattle.image.specs.Promises.{idle}
use Rattle.image_writing.proofs.is_idle.Goals as goal

pub returns : goal.returns
unfolding idle
returns c = λ i. c.is_nothing.ensures i && c.is_nothing-2.ensures i
