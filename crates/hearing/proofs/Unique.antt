-- No second outcome: whatever meets the guarantee of a public function of this crate at the same input is the same result and the same lent memory.
-- Equations. Assumes nothing.
use Rattle.rules.proofs.Promises.{one}
use Rattle.rules.proofs.Outcomes.{OneResult, OneList}
use Rattle.hearing.proofs.listening.Reads as listening
use Rattle.hearing.proofs.heard_with.Reads as heard-with
use Rattle.hearing.proofs.keep.Reads as keep

pub listening_one : OneResult listening.Post
listening_one κ a x y r r' p q = one p q

pub heard_with_one : OneResult heard-with.Post
heard_with_one κ a x y r r' p q = one p q

pub keep_one : OneList keep.Post (λ a. a.1.1.0.now)
keep_one κ a x y r r' p q = one p q
