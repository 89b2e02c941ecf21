-- No second outcome: whatever meets the guarantee of a public function of this crate at the same input is the same result. Assumes nothing.
use Rattle.rules.proofs.Promises.{one}
use Rattle.rules.proofs.Outcomes.{OneResult}
use Rattle.byte_rows.proofs.row.Reads as row
use Rattle.byte_rows.proofs.more.Reads as more
use Rattle.byte_rows.proofs.unhelds.unheld.Reads as unheld

pub row_one : OneResult row.Post
row_one κ a x y r r' p q = one p q

pub more_one : OneResult more.Post
more_one κ a x y r r' p q = one p q

pub unheld_one : OneResult unheld.Post
unheld_one κ a x y r r' p q = one p q
