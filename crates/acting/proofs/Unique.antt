-- No second outcome: whatever meets the guarantee of a public function of this crate at the same input is the same record without its buffer. Assumes nothing.
use Rattle.rules.proofs.Promises.{one}
use Rattle.rules.proofs.Outcomes.{OneResult}
use Rattle.acting.proofs.acted.Reads as acted
use Rattle.acting.proofs.used.Reads as used

pub acted_one : OneResult acted.Post
acted_one κ a x y r r' p q = one p q

pub used_one : OneResult used.Post
used_one κ a x y r r' p q = one p q
