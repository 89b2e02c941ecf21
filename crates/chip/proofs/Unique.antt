-- No second outcome: whatever meets the guarantee of a public function of this crate at the same input is the same result and the same lent
-- memory. Stated over the guarantees themselves; proofs/Promises of the rules has the law. Assumes nothing.
use Prim.Native.Nat.{ℕ}
use mathlib.Core.Path.{◌≡◌}
use mathlib.Core.Bool.{Bool}
use mathlib.Core.List.{List, []}
use denote.Ref.{Bor}
use denote.MutBor.{MutBor}
use Rattle.rules.specs.declared.After.{After}
use Rattle.rules.specs.Numbers.{Answer}
use Rattle.rules.specs.declared.Chip.{Chip}
use Rattle.rules.specs.declared.Circumstances.{Circumstances}
use Rattle.rules.specs.declared.Rest.{Rest}
use Rattle.rules.specs.declared.Tear.{Tear}
use Rattle.rules.specs.declared.Turn.{Turn}
use Rattle.rules.specs.Fields.{chip_of}
use Rattle.rules.specs.Promises.{Bench, Returned, zeroed, bench_of, returned_of, after_of}
use Rattle.rules.specs.Demands.{Call, frame_call, completion_call, cut_call, Meets}
use Rattle.rules.proofs.Promises as promises
use Rattle.rules.proofs.Outcomes.{OneResult}
use Rattle.chip.specs.declared.events.Event.{Event}
use Rattle.chip.specs.Turns.{call_of, stop_call}
use Rattle.chip.proofs.new.Reads as new
use Rattle.chip.proofs.new_of.Reads as new-of
use Rattle.chip.proofs.new_old.Reads as new-old
use Rattle.chip.proofs.frame.Reads as frame
use Rattle.chip.proofs.completion.Reads as completion
use Rattle.chip.proofs.power_cut.Reads as power-cut
use Rattle.chip.proofs.numbers.answer_number.Reads as answer_number_lem
use Rattle.chip.proofs.events.state_right.Reads as state-right
use Rattle.chip.proofs.events.cuts.Reads as cuts
use Rattle.chip.proofs.events.resets.Reads as resets
use Rattle.chip.proofs.events.stop_turn.Reads as stop-turn
use Rattle.chip.proofs.events.take_turn.Reads as take-turn

met_one : (b : Bench) (e : Call) (g h : Returned) → Meets b e g → Meets b e h → g ≡ h
met_one b (frame_call f) g h p q = promises.frame_one b f g h p q
met_one b completion_call g h p q = promises.completion_one b g h p q
met_one b (cut_call t) g h p q = promises.cut_one b t g h p q

abbrev Slice : Type 0
Slice = MutBor (List ℕ)

abbrev Shared : Type 0
Shared = Bor (List ℕ)

pub new_of_one : OneResult new-of.Post
new_of_one κ a x y r r' p q = promises.one p q

pub new_one : (r s : Chip) → new.Post tt tt r tt → new.Post tt tt s tt → r ≡ s
new_one r s p q = promises.one p q

pub new_old_one : (r s : Chip) → new-old.Post tt tt r tt → new-old.Post tt tt s tt → r ≡ s
new_old_one r s p q = promises.one p q

pub answer_number_one : (a x y : Answer × Unit {0}) (r s : ℕ) → answer_number_lem.Post tt a r x → answer_number_lem.Post tt a s y → r ≡ s
answer_number_one a x y r s p q = promises.one p q

-- ---- a frame, a completion, a power cut, by value

module _ (κ : List ℕ × (List ℕ × (List ℕ × (List ℕ × (List ℕ × Unit {0}))))) (a x y : Chip × (Slice × (Slice × (Shared × (Slice × (Slice × (Circumstances × Unit {0}))))))) (r s : After) where
  pub frame_one : frame.Post κ a r x → frame.Post κ a s y
      → returned_of r x.1.0.now x.1.1.0.now x.1.1.1.1.0.now x.1.1.1.1.1.0.now
      ≡ returned_of s y.1.0.now y.1.1.0.now y.1.1.1.1.0.now y.1.1.1.1.1.0.now
  frame_one p q = promises.frame_one _ _ _ _ p q

module _ (κ : List ℕ × (List ℕ × Unit {0})) (a x y : Chip × (Slice × (Slice × Unit {0}))) (r s : After) where
  pub completion_one : completion.Post κ a r x → completion.Post κ a s y → returned_of r x.1.0.now x.1.1.0.now [] [] ≡ returned_of s y.1.0.now y.1.1.0.now [] []
  completion_one p q = promises.completion_one _ _ _ p q

module _ (κ : List ℕ × (List ℕ × Unit {0})) (a x y : Chip × (Slice × (Slice × (Tear × Unit {0})))) (r s : After) where
  pub power_cut_one : power-cut.Post κ a r x → power-cut.Post κ a s y → returned_of r x.1.0.now x.1.1.0.now [] [] ≡ returned_of s y.1.0.now y.1.1.0.now [] []
  power_cut_one p q = promises.cut_one _ _ _ _ p q

-- ---- the same with the page buffer in place

pub state_right_one : OneResult state-right.Post
state_right_one κ a x y r r' p q = promises.one p q

pub cuts_one : OneResult cuts.Post
cuts_one κ a x y r r' p q = promises.one p q

pub resets_one : OneResult resets.Post
resets_one κ a x y r r' p q = promises.one p q

module _ (κ : List ℕ × (List ℕ × (List ℕ × (List ℕ × (List ℕ × Unit {0}))))) (a x y : Bool × (Rest × (Slice × (Slice × (Slice × (Slice × (Slice × (Circumstances × Unit {0})))))))) (r s : Turn) where
  pub stop_turn_one : stop-turn.Post κ a r x → stop-turn.Post κ a s y
      → returned_of (after_of r x.1.1.0.now) x.1.1.1.0.now x.1.1.1.1.0.now x.1.1.1.1.1.0.now x.1.1.1.1.1.1.0.now
      ≡ returned_of (after_of s y.1.1.0.now) y.1.1.1.0.now y.1.1.1.1.0.now y.1.1.1.1.1.0.now y.1.1.1.1.1.1.0.now
  stop_turn_one p q =
      met_one
      (bench_of (chip_of a.1.1.0.now a.1.0) a.1.1.1.0.now a.1.1.1.1.0.now)
      (stop_call a.0 a.1.1.1.1.1.0.now a.1.1.1.1.1.1.0.now a.1.1.1.1.1.1.1.0)
      _
      _
      p.0
      q.0

module _ (κ : List ℕ × (List ℕ × (List ℕ × (List ℕ × (List ℕ × (List ℕ × Unit {0})))))) (a x y : Event × (Bool × (Rest × (Slice × (Slice × (Slice × (Shared × (Slice × (Slice × Unit {0}))))))))) (r s : Turn) where
  pub take_turn_one : take-turn.Post κ a r x → take-turn.Post κ a s y
      → returned_of (after_of r x.1.1.1.0.now) x.1.1.1.1.0.now x.1.1.1.1.1.0.now x.1.1.1.1.1.1.1.0.now x.1.1.1.1.1.1.1.1.0.now
      ≡ returned_of (after_of s y.1.1.1.0.now) y.1.1.1.1.0.now y.1.1.1.1.1.0.now y.1.1.1.1.1.1.1.0.now y.1.1.1.1.1.1.1.1.0.now
  take_turn_one p q =
      met_one
      (bench_of (chip_of a.1.1.1.0.now a.1.1.0) a.1.1.1.1.0.now a.1.1.1.1.1.0.now)
      (call_of a.0 a.1.1.1.1.1.1.0.now a.1.1.1.1.1.1.1.0.now a.1.1.1.1.1.1.1.1.0.now zeroed)
      _
      _
      (p zeroed)
      (q zeroed)
