-- No second outcome: whatever meets the guarantee of this crate's public function at the same input is the same answer, since an answer is known
-- by its number. Assumes nothing.
use Rattle.rules.proofs.Promises.{one, answer_one}
use Rattle.rules.proofs.Outcomes.{OneResult}
use Rattle.judging.proofs.judge.Reads as judge

pub judge_one : OneResult judge.Post
judge_one κ a x y r r' p q = answer_one r r' (one p q)
