-- No second outcome: whatever meets the guarantee of a public function of this crate at the same input is the same result. Each guarantee is an
-- equation. Assumes nothing.
use Rattle.rules.proofs.Promises.{one}
use Rattle.rules.proofs.Outcomes.{OneResult}
use Rattle.standing.proofs.deeds.deed_of.Reads as deed-of
use Rattle.standing.proofs.start.Reads as start
use Rattle.standing.proofs.with_reading.Reads as with-reading
use Rattle.standing.proofs.with_bench.Reads as with-bench
use Rattle.standing.proofs.next_line.Reads as next-line
use Rattle.standing.proofs.wrong.Reads as wrong
use Rattle.standing.proofs.expectation.Reads as expectation

pub deed_of_one : OneResult deed-of.Post
deed_of_one κ a x y r r' p q = one p q

pub start_one : OneResult start.Post
start_one κ a x y r r' p q = one p q

pub with_reading_one : OneResult with-reading.Post
with_reading_one κ a x y r r' p q = one p q

pub with_bench_one : OneResult with-bench.Post
with_bench_one κ a x y r r' p q = one p q

pub next_line_one : OneResult next-line.Post
next_line_one κ a x y r r' p q = one p q

pub wrong_one : OneResult wrong.Post
wrong_one κ a x y r r' p q = one p q

pub expectation_one : OneResult expectation.Post
expectation_one κ a x y r r' p q = one p q
