-- No second outcome: whatever meets the guarantee of a public function of this crate at the same input is the same answer and record and the same lent bytes.
-- Assumes nothing.
use Rattle.rules.proofs.Promises.{one}
use Rattle.rules.proofs.Outcomes.{OneResult, OneList}
use Rattle.image.proofs.Trips.{read_one}
use Rattle.image_reading.proofs.faults.fault.Reads as fault
use Rattle.image_reading.proofs.read.Reads as read

pub fault_one : OneResult fault.Post
fault_one κ a x y r r' p q = one p.0 q.0

pub read_gives_one : OneResult read.Post
read_gives_one κ a x y r r' p q = (read_one _ _ _ _ _ _ _ _ _ _ p q).0

pub read_leaves_one_array : OneList read.Post (λ a. a.1.1.0.now)
read_leaves_one_array κ a x y r r' p q = (read_one _ _ _ _ _ _ _ _ _ _ p q).1.0

pub read_leaves_one_security : OneList read.Post (λ a. a.1.1.1.0.now)
read_leaves_one_security κ a x y r r' p q = (read_one _ _ _ _ _ _ _ _ _ _ p q).1.1
