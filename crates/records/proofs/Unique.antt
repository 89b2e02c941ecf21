-- No second outcome: whatever meets the guarantee of this crate's public function at the same input is the same result. Assumes nothing.
use Rattle.rules.proofs.Promises.{one}
use Rattle.rules.proofs.Outcomes.{OneResult}
use Rattle.records.proofs.well_formed.Reads as well-formed

pub well_formed_one : OneResult well-formed.Post
well_formed_one κ a x y r r' p q = one p q
