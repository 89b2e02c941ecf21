-- No second outcome: whatever meets the guarantee of a public function of this crate at the same input is the same record without its buffer. Assumes nothing.
use Rattle.rules.proofs.Promises.{one}
use Rattle.rules.proofs.Outcomes.{OneResult}
use Rattle.power.proofs.new_rest.Reads as new-rest
use Rattle.power.proofs.powered_up.Reads as powered_up_lem
use Rattle.power.proofs.reset.Reads as reset

pub new_rest_one : OneResult new-rest.Post
new_rest_one κ a x y r r' p q = one p q

pub powered_up_one : OneResult powered_up_lem.Post
powered_up_one κ a x y r r' p q = one p q

pub reset_one : OneResult reset.Post
reset_one κ a x y r r' p q = one p q
