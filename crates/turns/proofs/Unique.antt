-- No second outcome: whatever meets the guarantee of a public function of this crate at the same input is the same turn. Assumes nothing.
use Rattle.rules.proofs.Promises.{one}
use Rattle.rules.proofs.Outcomes.{OneResult}
use Rattle.turns.proofs.done.Reads as done
use Rattle.turns.proofs.refused.Reads as refused

pub done_one : OneResult done.Post
done_one κ a x y r r' p q = one p q

pub refused_one : OneResult refused.Post
refused_one κ a x y r r' p q = one p q
