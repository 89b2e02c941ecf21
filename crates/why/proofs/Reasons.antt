-- The length in a protocol. Assumes nothing.
use mathlib.Core.Path.{◌≡◌, refl}
use mathlib.Core.Bool.{Bool, true, false}
use Rattle.rules.specs.declared.Form.{Form}
use Rattle.rules.specs.Frames.{least_length}
use Rattle.rules.specs.Words.{pick}

-- the length in a protocol
pub least_length_lem : (q : Bool) (f : Form) → pick q f.sqi f.spi ≡ least_length q f
least_length_lem true f = refl
least_length_lem false f = refl
