-- No second outcome: whatever meets the guarantee of a public function of this crate at the same input is the same record without its buffer. Assumes nothing.
use Rattle.rules.proofs.Promises.{one}
use Rattle.rules.proofs.Outcomes.{OneResult}
use Rattle.settling.proofs.completed.Reads as completed
use Rattle.settling.proofs.cut.Reads as cut
use Rattle.settling.proofs.reset.Reads as reset

pub completed_one : OneResult completed.Post
completed_one κ a x y r r' p q = one p q

pub cut_one : OneResult cut.Post
cut_one κ a x y r r' p q = one p q

pub reset_one : OneResult reset.Post
reset_one κ a x y r r' p q = one p q
