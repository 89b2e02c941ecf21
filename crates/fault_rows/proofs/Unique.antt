-- No second outcome: whatever meets the guarantee of a public function of this crate at the same input is the same result. Assumes nothing.
use Rattle.rules.proofs.Promises.{one}
use Rattle.rules.proofs.Outcomes.{OneResult}
use Rattle.fault_rows.proofs.length.Reads as length
use Rattle.fault_rows.proofs.fault.Reads as fault

pub length_one : OneResult length.Post
length_one κ a x y r r' p q = one p q

pub fault_one : OneResult fault.Post
fault_one κ a x y r r' p q = one p q
