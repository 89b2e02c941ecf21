-- No second outcome: whatever meets the guarantee of a public function of this crate at the same input is the same register. Assumes nothing.
use Rattle.rules.proofs.Promises.{one}
use Rattle.rules.proofs.Outcomes.{OneResult}
use Rattle.registers.proofs.configuration_of.Reads as configuration-of
use Rattle.registers.proofs.status_of.Reads as status-of

pub configuration_of_one : OneResult configuration-of.Post
configuration_of_one κ a x y r r' p q = one p q

pub status_of_one : OneResult status-of.Post
status_of_one κ a x y r r' p q = one p q
