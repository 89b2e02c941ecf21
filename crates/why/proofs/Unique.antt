-- No second outcome: whatever meets the guarantee of a public function of this crate at the same input is the same result. Assumes nothing.
use Rattle.rules.proofs.Promises.{one}
use Rattle.rules.proofs.Outcomes.{OneResult}
use Rattle.why.proofs.reason.Reads as reason
use Rattle.why.proofs.malformed.Reads as malformed

pub reason_one : OneResult reason.Post
reason_one κ a x y r r' p q = one p q

pub malformed_one : OneResult malformed.Post
malformed_one κ a x y r r' p q = one p q
