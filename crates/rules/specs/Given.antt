-- Which number an event gets, each exactly when its condition holds and none before it in the list does. Proved in proofs/Numbers.
use Rattle.std.specs.Prelude.{ℕ, ◌≤◌, ◌≡◌, Bool, true, false, List, [], ◌∷◌, map, ◌↔◌, eqb, length}
use Rattle.rules.specs.declared.Tear.{Tear}
use Rattle.rules.specs.Words.{pick, one_of}
use Rattle.rules.specs.Frames.{opcode}
use Rattle.rules.specs.WellFormed.{well_formed}
use Rattle.rules.specs.Numbers.{State, Frame, state_right, malformed, empty_frame, not_listed_lem, wrong_length_lem, while_busy, no_enable, no_ioc, no_such_burst, suspension, no_wel, closed, locked_target, nothing_runs, Test, frame_tests}
use Rattle.rules.specs.Machine.{frame, completion, power_cut}

-- ---- 1: "record not well-formed, or a length outside Sizes (every event)"

pub record RightState (s : State) : Type 0 where
  pub formed : well_formed s.chip ≡ true
  pub array : s.array.size ≡ 2_097_152
  pub security : s.security.size ≡ 2_048

pub record RightFrame (f : Frame) : Type 0 where
  pub sent : length f.sent ≤ 65_536
  pub reply : f.reply.size ≤ 65_536
  pub equal : f.reply.size ≡ f.marks.size

pub record RightSizes (s : State) (f : Frame) : Type 0 where
  pub of_state : (state_right s ≡ true) ↔ RightState s
  pub of_frame : (malformed s f ≡ false) ↔ (RightState s × RightFrame f)

-- ---- each number

-- the tests before the one that gives n
abbrev pub before : ℕ → List Test → List Test
before n [] = []
before n (t ∷ ts) = pick (eqb n t.number) [] (t ∷ before n ts)

-- the condition under which n is given, if no test before it holds
abbrev pub condition_of : ℕ → List Test → Bool
condition_of n [] = false
condition_of n (t ∷ ts) = pick (eqb n t.number) t.applies (condition_of n ts)

-- no condition of these holds
abbrev pub None : List Test → Type 0
None [] = Unit {0}
None (t ∷ ts) = (t.applies ≡ false) × None ts

-- the order in which a frame's are tested: 13 after 7
abbrev pub frame_order : List ℕ
frame_order = 1 ∷ 2 ∷ 3 ∷ 4 ∷ 5 ∷ 6 ∷ 7 ∷ 13 ∷ 8 ∷ 9 ∷ 10 ∷ 11 ∷ []

-- the numbers that an event can get
abbrev pub frame_numbers : List ℕ
frame_numbers = 0 ∷ frame_order

abbrev pub completion_numbers : List ℕ
completion_numbers = 0 ∷ 1 ∷ 12 ∷ []

abbrev pub cut_numbers : List ℕ
cut_numbers = 0 ∷ 1 ∷ []

pub record FrameGiven (s : State) (f : Frame) : Type 0 where
  pub is_0 : ((frame s f).number ≡ 0) ↔ None (frame_tests s f)
  pub is_1 : ((frame s f).number ≡ 1) ↔ (malformed s f ≡ true)
  pub is_2 : ((frame s f).number ≡ 2) ↔ (None (before 2 (frame_tests s f)) × (empty_frame f.sent ≡ true))
  pub is_3 : ((frame s f).number ≡ 3) ↔ (None (before 3 (frame_tests s f)) × (not_listed_lem s.chip.rest (opcode f.sent) ≡ true))
  pub is_4 : ((frame s f).number ≡ 4) ↔ (None (before 4 (frame_tests s f)) × (wrong_length_lem s.chip.rest (opcode f.sent) f.sent ≡ true))
  pub is_5 : ((frame s f).number ≡ 5) ↔ (None (before 5 (frame_tests s f)) × (while_busy s.chip.rest (opcode f.sent) ≡ true))
  pub is_6 : ((frame s f).number ≡ 6) ↔ (None (before 6 (frame_tests s f)) × (no_enable s.chip.rest (opcode f.sent) ≡ true))
  pub is_7 : ((frame s f).number ≡ 7) ↔ (None (before 7 (frame_tests s f)) × (no_ioc s.chip.rest (opcode f.sent) ≡ true))
  pub is_13 : ((frame s f).number ≡ 13) ↔ (None (before 13 (frame_tests s f)) × (no_such_burst (opcode f.sent) f.sent ≡ true))
  pub is_8 : ((frame s f).number ≡ 8) ↔ (None (before 8 (frame_tests s f)) × (suspension s.chip.rest (opcode f.sent) f.sent ≡ true))
  pub is_9 : ((frame s f).number ≡ 9) ↔ (None (before 9 (frame_tests s f)) × (no_wel s.chip.rest (opcode f.sent) ≡ true))
  pub is_10 : ((frame s f).number ≡ 10) ↔ (None (before 10 (frame_tests s f)) × (closed s.chip.rest (opcode f.sent) f.sent ≡ true))
  pub is_11 : ((frame s f).number ≡ 11) ↔ (None (before 11 (frame_tests s f)) × (locked_target s.chip.rest (opcode f.sent) f.sent ≡ true))
  pub no_other : one_of (frame s f).number frame_numbers ≡ true
  pub in_order : map (λ t. t.number) (frame_tests s f) ≡ frame_order

pub record CompletionGiven (s : State) : Type 0 where
  pub is_0 : ((completion s).number ≡ 0) ↔ ((state_right s ≡ true) × (nothing_runs s.chip.rest ≡ false))
  pub is_1 : ((completion s).number ≡ 1) ↔ (state_right s ≡ false)
  pub is_12 : ((completion s).number ≡ 12) ↔ ((state_right s ≡ true) × (nothing_runs s.chip.rest ≡ true))
  pub no_other : one_of (completion s).number completion_numbers ≡ true

pub record CutGiven (s : State) (t : Tear) : Type 0 where
  pub is_0 : ((power_cut s t).number ≡ 0) ↔ (state_right s ≡ true)
  pub is_1 : ((power_cut s t).number ≡ 1) ↔ (state_right s ≡ false)
  pub no_other : one_of (power_cut s t).number cut_numbers ≡ true
