-- No second outcome: whatever meets the guarantee of a public function of this crate at the same input is the same result and the same lent bytes. Assumes
-- nothing.
use Prim.Native.Nat.{ℕ}
use mathlib.Core.List.{List}
use Rattle.rules.proofs.Promises.{one}
use Rattle.rules.proofs.Outcomes.{OneOutcome}
use Rattle.image.specs.Promises.{written_of}
use Rattle.posting.specs.declared.Carried.{Carried}
use Rattle.image_posts.proofs.save.Reads as save
use Rattle.image_posts.proofs.load.Reads as load

-- the number, and the lent file
pub save_one : OneOutcome save.Post (λ r x. written_of r x.1.1.1.0.now)
save_one κ a x y r r' p q = one p.outcome q.outcome

-- the result, the array and the Security ID
pub load_one : OneOutcome {S = Carried × List ℕ × List ℕ} load.Post (λ r x. (r, x.1.0.now, x.1.1.0.now))
load_one κ a x y r r' p q = λ i. (one p.outcome q.outcome i, one p.array_is q.array_is i, one p.security_is q.security_is i)
