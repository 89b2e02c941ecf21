-- No second outcome: whatever meets the guarantee of a public function of this crate at the same input is the same result. Assumes nothing.
use Rattle.rules.proofs.Promises.{one}
use Rattle.rules.proofs.Outcomes.{OneResult}
use Rattle.reasons.proofs.number.Reads as number
use Rattle.reasons.proofs.why.Reads as why
use Rattle.reasons.proofs.unmet.Reads as unmet
use Rattle.reasons.proofs.expected.Reads as expected
use Rattle.reasons.proofs.came.Reads as came

pub number_one : OneResult number.Post
number_one κ a x y r r' p q = one p q

pub why_one : OneResult why.Post
why_one κ a x y r r' p q = one p q

pub unmet_one : OneResult unmet.Post
unmet_one κ a x y r r' p q = one p q

pub expected_one : OneResult expected.Post
expected_one κ a x y r r' p q = one p q

pub came_one : OneResult came.Post
came_one κ a x y r r' p q = one p q
