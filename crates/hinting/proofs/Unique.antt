-- No second outcome: whatever meets the guarantee of a public function of this crate at the same input is the same result. Assumes nothing.
use Rattle.rules.proofs.Promises.{one}
use Rattle.rules.proofs.Outcomes.{OneResult}
use Rattle.hinting.proofs.hint_of.Reads as hint-of

pub hint_of_one : OneResult hint-of.Post
hint_of_one κ a x y r r' p q = one p q
