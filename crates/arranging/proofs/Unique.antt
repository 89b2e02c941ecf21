-- No second outcome: whatever meets the guarantee of a public function of this crate at the same input is the same result and the same lent memory.
-- Equations; a slice is the only one with its memory. Assumes nothing.
use Prim.Native.Nat.{ℕ}
use mathlib.Core.List.{List}
use Rattle.rules.proofs.Promises.{one, lent_one}
use Rattle.rules.proofs.Outcomes.{OneOutcome}
use Rattle.standing.specs.declared.Playing.{Playing}
use Rattle.arranging.proofs.arrange.Reads as arrange
use Rattle.arranging.proofs.played.Reads as played

-- the array and the Security ID
pub arrange_one : OneOutcome {S = List ℕ × List ℕ} arrange.Post (λ r x. (x.1.1.0.now, x.1.1.1.0.now))
arrange_one κ a x y r r' p q =
    let m = lent_one x.1.1.0.now y.1.1.0.now (one p.array_is q.array_is) in
    let s = lent_one x.1.1.1.0.now y.1.1.1.0.now (one p.security_is q.security_is) in
    λ i. (m i, s i)

-- and the result
pub played_one : OneOutcome {S = Playing × List ℕ × List ℕ} played.Post (λ r x. (r, x.1.1.1.0.now, x.1.1.1.1.0.now))
played_one κ a x y r r' p q =
    let m = lent_one x.1.1.1.0.now y.1.1.1.0.now (one p.arranged.array_is q.arranged.array_is) in
    let s = lent_one x.1.1.1.1.0.now y.1.1.1.1.0.now (one p.arranged.security_is q.arranged.security_is) in
    λ i. (one p.playing q.playing i, m i, s i)
