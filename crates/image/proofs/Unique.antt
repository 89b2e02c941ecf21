-- No second outcome: whatever meets the guarantee of a public function of this crate at the same input is the same result. Assumes nothing.
use Rattle.rules.proofs.Promises.{one}
use Rattle.rules.proofs.Outcomes.{OneResult}
use Rattle.image.proofs.number.Reads as number

pub number_one : OneResult number.Post
number_one κ a x y r r' p q = one p q
