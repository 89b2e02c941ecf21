-- No second outcome: whatever meets the guarantee of a public function of this crate at the same input is the same result. Assumes nothing.
use Rattle.rules.proofs.Promises.{one}
use Rattle.rules.proofs.Outcomes.{OneResult}
use Rattle.post_rows.proofs.row.Reads as row
use Rattle.post_rows.proofs.heads.head.Reads as head
use Rattle.post_rows.proofs.heads.second.Reads as second
use Rattle.post_rows.proofs.whys.number.Reads as number
use Rattle.post_rows.proofs.whys.why.Reads as why

pub row_one : OneResult row.Post
row_one κ a x y r r' p q = one p q

-- ---- inside the crate

pub head_one : OneResult head.Post
head_one κ a x y r r' p q = one p q

pub second_one : OneResult second.Post
second_one κ a x y r r' p q = one p q

pub number_one : OneResult number.Post
number_one κ a x y r r' p q = one p q

pub why_one : OneResult why.Post
why_one κ a x y r r' p q = one p q
