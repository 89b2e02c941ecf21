-- No second outcome: whatever meets the guarantee of a public function of this crate at the same input is the same result. Assumes nothing.
use Rattle.rules.proofs.Promises.{one}
use Rattle.rules.proofs.Outcomes.{OneResult}
use Rattle.ordering.proofs.nothing.Reads as nothing
use Rattle.ordering.proofs.begun.Reads as begun
use Rattle.ordering.proofs.is_over.Reads as is-over
use Rattle.ordering.proofs.next.Reads as next

pub nothing_one : OneResult nothing.Post
nothing_one κ a x y r r' p q = one p q

pub begun_one : OneResult begun.Post
begun_one κ a x y r r' p q = one p q

pub is_over_one : OneResult is-over.Post
is_over_one κ a x y r r' p q = one p q

pub next_one : OneResult next.Post
next_one κ a x y r r' p q = one p q
