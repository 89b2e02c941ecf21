-- No second outcome: whatever meets the guarantee of a public function of this crate at the same input is the same result and the same lent bytes.
-- Assumes nothing.
use Rattle.rules.proofs.Promises.{one}
use Rattle.rules.proofs.Outcomes.{OneResult, OneList}
use Rattle.image_records.proofs.two.Reads as two
use Rattle.image_records.proofs.put_two.Reads as put_two
use Rattle.image_records.proofs.sum.Reads as sum
use Rattle.image_records.proofs.sizes_right.Reads as sizes_right_lem
use Rattle.image_records.proofs.seal.Reads as seal

pub two_one : OneResult two.Post
two_one κ a x y r r' p q = one p.0 q.0

pub put_two_one : OneList put_two.Post (λ a. a.0.now)
put_two_one κ a x y r r' p q = one p q

pub sum_one : OneResult sum.Post
sum_one κ a x y r r' p q = one p q

pub sizes_right_one : OneResult sizes_right_lem.Post
sizes_right_one κ a x y r r' p q = one p q

pub seal_one : OneList seal.Post (λ a. a.0.now)
seal_one κ a x y r r' p q = one p q
