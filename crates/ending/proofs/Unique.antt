-- No second outcome: whatever meets the guarantee of a public function of this crate at the same input is the same result and the same lent
-- memory. Stated over the guarantees themselves; proofs/Promises of the rules has the law. Assumes nothing.
use Prim.Native.Nat.{ℕ}
use mathlib.Core.Path.{◌≡◌}
use mathlib.Core.Bool.{Bool}
use mathlib.Core.List.{List, []}
use denote.MutBor.{MutBor}
use Rattle.rules.specs.declared.Rest.{Rest}
use Rattle.rules.specs.declared.Tear.{Tear}
use Rattle.rules.specs.declared.Turn.{Turn}
use Rattle.rules.specs.Promises.{returned_of, after_of}
use Rattle.rules.proofs.Promises as promises
use Rattle.ending.proofs.completion_turn.Reads as completion-turn
use Rattle.ending.proofs.cut_turn.Reads as cut-turn

abbrev Slice : Type 0
Slice = MutBor (List ℕ)

module _ (κ : List ℕ × (List ℕ × (List ℕ × Unit {0}))) (a x y : Bool × (Rest × (Slice × (Slice × (Slice × Unit {0}))))) (r s : Turn) where
  pub completion_turn_one : completion-turn.Post κ a r x → completion-turn.Post κ a s y
      → returned_of (after_of r x.1.1.0.now) x.1.1.1.0.now x.1.1.1.1.0.now [] [] ≡ returned_of (after_of s y.1.1.0.now) y.1.1.1.0.now y.1.1.1.1.0.now [] []
  completion_turn_one p q = promises.completion_one _ _ _ p q

module _ (κ : List ℕ × (List ℕ × (List ℕ × Unit {0}))) (a x y : Bool × (Rest × (Slice × (Slice × (Slice × (Tear × Unit {0})))))) (r s : Turn) where
  pub cut_turn_one : cut-turn.Post κ a r x → cut-turn.Post κ a s y
      → returned_of (after_of r x.1.1.0.now) x.1.1.1.0.now x.1.1.1.1.0.now [] [] ≡ returned_of (after_of s y.1.1.0.now) y.1.1.1.0.now y.1.1.1.1.0.now [] []
  cut_turn_one p q = promises.cut_one _ _ _ _ p q
