-- No second outcome: whatever meets the guarantee of a public function of this crate at the same input is the same result and the same lent
-- memory. Stated over the guarantees themselves; proofs/Promises of the rules has the law. Assumes nothing.
use Prim.Native.Nat.{ℕ}
use mathlib.Core.Path.{◌≡◌}
use mathlib.Core.Bool.{Bool}
use mathlib.Core.List.{List}
use denote.MutBor.{MutBor}
use denote.Ref.{Bor}
use Rattle.rules.specs.declared.Circumstances.{Circumstances}
use Rattle.rules.specs.declared.Rest.{Rest}
use Rattle.rules.specs.declared.Turn.{Turn}
use Rattle.rules.specs.Promises.{zeroed, returned_of, after_of}
use Rattle.rules.proofs.Promises as promises
use Rattle.rules.proofs.Outcomes.{OneResult}
use Rattle.framing.proofs.resets.Reads as resets
use Rattle.framing.proofs.reset_turn.Reads as reset-turn
use Rattle.framing.proofs.plain_turn.Reads as plain_turn
use Rattle.framing.proofs.frame_turn.Reads as frame-turn

abbrev Slice : Type 0
Slice = Bor (List ℕ)

abbrev Lent : Type 0
Lent = MutBor (List ℕ)

pub resets_one : OneResult resets.Post
resets_one κ a x y r r' p q = promises.one p q

module _ (κ : List ℕ × (List ℕ × (List ℕ × (List ℕ × (List ℕ × Unit {0}))))) (a x y : Rest × (Lent × (Lent × (Lent × (Lent × (Lent × (Circumstances × Unit {0}))))))) (r s : Turn) where
  pub reset_turn_one : reset-turn.Post κ a r x → reset-turn.Post κ a s y
      → returned_of (after_of r x.1.0.now) x.1.1.0.now x.1.1.1.0.now x.1.1.1.1.0.now x.1.1.1.1.1.0.now
      ≡ returned_of (after_of s y.1.0.now) y.1.1.0.now y.1.1.1.0.now y.1.1.1.1.0.now y.1.1.1.1.1.0.now
  reset_turn_one p q = promises.frame_one _ _ _ _ p q

-- the array and the Security ID are lent to be read
module _ (κ : List ℕ × (List ℕ × (List ℕ × (List ℕ × (List ℕ × (List ℕ × Unit {0})))))) (a x y : Bool × (Rest × (Lent × (Slice × (Slice × (Slice × (Lent × (Lent × Unit {0})))))))) (r s : Turn) where
  pub plain_turn_one : plain_turn.Post κ a r x → plain_turn.Post κ a s y
      → returned_of (after_of r x.1.1.0.now) a.1.1.1.0.now a.1.1.1.1.0.now x.1.1.1.1.1.1.0.now x.1.1.1.1.1.1.1.0.now
      ≡ returned_of (after_of s y.1.1.0.now) a.1.1.1.0.now a.1.1.1.1.0.now y.1.1.1.1.1.1.0.now y.1.1.1.1.1.1.1.0.now
  plain_turn_one p q = promises.frame_one _ _ _ _ (p zeroed) (q zeroed)

module _ (κ : List ℕ × (List ℕ × (List ℕ × (List ℕ × (List ℕ × (List ℕ × Unit {0})))))) (a x y : Bool × (Rest × (Lent × (Lent × (Lent × (Slice × (Lent × (Lent × (Circumstances × Unit {0}))))))))) (r s : Turn) where
  pub frame_turn_one : frame-turn.Post κ a r x → frame-turn.Post κ a s y
      → returned_of (after_of r x.1.1.0.now) x.1.1.1.0.now x.1.1.1.1.0.now x.1.1.1.1.1.1.0.now x.1.1.1.1.1.1.1.0.now
      ≡ returned_of (after_of s y.1.1.0.now) y.1.1.1.0.now y.1.1.1.1.0.now y.1.1.1.1.1.1.0.now y.1.1.1.1.1.1.1.0.now
  frame_turn_one p q = promises.frame_one _ _ _ _ p q
