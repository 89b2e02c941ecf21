-- No second outcome: whatever meets the guarantee of this crate's public function at the same input is the same result. Assumes nothing.
use Rattle.rules.proofs.Promises.{one}
use Rattle.rules.proofs.Outcomes.{OneResult}
use Rattle.beside.proofs.conflicts.Reads as conflicts

pub conflicts_one : OneResult conflicts.Post
conflicts_one κ a x y r r' p q = one p q
