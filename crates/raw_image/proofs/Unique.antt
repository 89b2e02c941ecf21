-- No second outcome: whatever meets the guarantee of a public function of this crate at the same input is the same result and the same lent bytes. Assumes
-- nothing.
use Prim.Native.Nat.{ℕ}
use mathlib.Core.List.{List}
use Rattle.rules.proofs.Promises.{one}
use Rattle.image.specs.Promises.{Posted}
use Rattle.rules.proofs.Outcomes.{OneOutcome, OneResult}
use Rattle.raw_image.proofs.sized.Reads as sized
use Rattle.raw_image.proofs.load.Reads as load
use Rattle.raw_image.proofs.compare.Reads as compare

pub sized_one : OneResult sized.Post
sized_one κ a x y r r' p q = one p q

pub load_one : OneOutcome {S = Posted × List ℕ} load.Post (λ r x. (r, x.0.now))
load_one κ a x y r r' p q = λ i. (one p.answer_is q.answer_is i, one p.array_is q.array_is i)

pub compare_one : OneResult compare.Post
compare_one κ a x y r r' p q = one p q
