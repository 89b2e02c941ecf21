-- No second outcome: whatever meets the guarantee of a public function of this crate at the same input is the same result and the same lent memory. Assumes
-- nothing.
use mathlib.Core.List.{List}
use Prim.Native.Nat.{ℕ}
use Rattle.rules.proofs.Promises.{one}
use Rattle.rules.proofs.Outcomes.{OneOutcome, OneResult}
use Rattle.posting.specs.declared.Carried.{Carried}
use Rattle.posting.proofs.asked.Reads as asked
use Rattle.posting.proofs.judge.Reads as judge
use Rattle.posting.proofs.end.Reads as end
use Rattle.posting.proofs.nothing.Reads as nothing
use Rattle.posting.proofs.raw_number.Reads as raw-number
use Rattle.posting.proofs.load_raw.Reads as load-raw
use Rattle.posting.proofs.compare_raw.Reads as compare-raw

pub asked_one : OneResult asked.Post
asked_one κ a x y r r' p q = one p q

pub judge_one : OneResult judge.Post
judge_one κ a x y r r' p q = one p q

pub end_one : OneResult end.Post
end_one κ a x y r r' p q = one p q

pub nothing_one : OneResult nothing.Post
nothing_one κ a x y r r' p q = one p q

pub raw_number_one : OneResult raw-number.Post
raw_number_one κ a x y r r' p q = one p q

pub load_raw_one : OneOutcome {S = Carried × List ℕ} load-raw.Post (λ r x. (r, x.1.0.now))
load_raw_one κ a x y r r' p q = λ i. (one p.outcome q.outcome i, one p.array_is q.array_is i)

pub compare_raw_one : OneResult compare-raw.Post
compare_raw_one κ a x y r r' p q = one p q
