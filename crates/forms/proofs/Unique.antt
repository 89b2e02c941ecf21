-- No second outcome: whatever meets the guarantee of a public function of this crate at the same input is the same result. Assumes nothing.
use Rattle.rules.proofs.Promises.{one}
use Rattle.rules.proofs.Outcomes.{OneResult}
use Rattle.forms.proofs.fill.Reads as fill

pub fill_one : OneResult fill.Post
fill_one κ a x y r r' p q = one p q
