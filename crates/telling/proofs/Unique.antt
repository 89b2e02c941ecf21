-- No second outcome: whatever meets the guarantee of a public function of this crate at the same input is the same result. Assumes nothing.
use Rattle.rules.proofs.Promises.{one}
use Rattle.rules.proofs.Outcomes.{OneResult}
use Rattle.telling.proofs.parts.row.Reads as row
use Rattle.telling.proofs.totals.heading.Reads as heading
use Rattle.telling.proofs.totals.total.Reads as total
use Rattle.telling.proofs.totals.total_of.Reads as total_of
use Rattle.telling.proofs.arguments.argument_of.Reads as argument-of

pub row_one : OneResult row.Post
row_one κ a x y r r' p q = one p q

pub heading_one : OneResult heading.Post
heading_one κ a x y r r' p q = one p q

pub total_one : OneResult total.Post
total_one κ a x y r r' p q = one p q

pub total_of_one : OneResult total_of.Post
total_of_one κ a x y r r' p q = one p q

pub argument_of_one : OneResult argument-of.Post
argument_of_one κ a x y r r' p q = one p q
