-- Demands 2 and 3 over runs. Proved in proofs/Runs and proofs/Keys.
use Rattle.std.specs.Prelude.{ℕ, ◌<◌, ◌≡◌, Bool, true, false, ◌&&◌, List, [], ◌∷◌}
use Rattle.rules.specs.declared.Tear.{Tear}
use Rattle.rules.specs.declared.Work.{Work}
use Rattle.rules.specs.Blocks.{array_size_lem, read_locked, write_locked}
use Rattle.rules.specs.WellFormed.{well_formed}
use Rattle.rules.specs.Numbers.{State}
use Rattle.rules.specs.Machine.{Outcome, Event, sends, completes, cuts, run}
use Rattle.rules.specs.Promises.{Bench, Carried, Returned, bench_of, state_of, frame_of, outcome_of, FramePromise, CompletionPromise, CutPromise}

-- ---- Demand 2: it is the rule book, over every run of events

-- a call of a public function, with all that it carries
pub data Call : Type 0 where
  frame_call : Carried → Call
  completion_call : Call
  cut_call : Tear → Call

-- the guarantee of the public function, at the state that it finds
abbrev pub Meets : Bench → Call → Returned → Type 0
Meets b (frame_call f) g = FramePromise b f g
Meets b completion_call g = CompletionPromise b g
Meets b (cut_call t) g = CutPromise b t g

-- the state that it leaves to the next call
abbrev pub bench_after : Returned → Bench
bench_after g = bench_of g.after.chip g.array g.security

-- each call's guarantee holds at the state that the call before it left
abbrev pub Chain : Bench → List Call → List Returned → Type 0
Chain b [] [] = Unit {0}
Chain b [] (g ∷ gs) = ⊥
Chain b (e ∷ es) [] = ⊥
Chain b (e ∷ es) (g ∷ gs) = Meets b e g × Chain (bench_after g) es gs

-- the machine's event
abbrev pub event_of : Call → Event
event_of (frame_call f) = sends (frame_of f)
event_of completion_call = completes
event_of (cut_call t) = cuts t

abbrev pub events_of : List Call → List Event
events_of [] = []
events_of (e ∷ es) = event_of e ∷ events_of es

abbrev pub outcomes_of : List Returned → List Outcome
outcomes_of [] = []
outcomes_of (g ∷ gs) = outcome_of g ∷ outcomes_of gs

abbrev pub AllWellFormed : List Returned → Type 0
AllWellFormed [] = Unit {0}
AllWellFormed (g ∷ gs) = (well_formed g.after.chip ≡ true) × AllWellFormed gs

-- every outcome is the machine's, event by event, and every record on the way is well-formed
pub record Demand2 (b : Bench) (es : List Call) (gs : List Returned) : Type 0 where
  pub machine : outcomes_of gs ≡ run (state_of b) (events_of es)
  pub formed : well_formed b.chip ≡ true → AllWellFormed gs

-- ---- Demand 3: it keeps keys

-- a place of a block whose read lock and write lock are both set: such a block is one of 8 KB
abbrev pub key_place : ℕ → ℕ → Bool
key_place p a = read_locked p a && write_locked p a

-- The demand is KeepsKeys below of key_place, a register that is locked down, and runs with no power cut.
-- With less than these it is wrong: proofs/KeyCases refutes it for other places, for no lock-down, and for runs with a power cut.

-- two such chips, idle, nothing suspended, the register locked down or not, alike in everything but those blocks
pub record TwoChips (key : ℕ → ℕ → Bool) (down : Bool) (s t : State) : Type 0 where
  pub same_record : s.chip ≡ t.chip
  pub locked_down : s.chip.rest.flags.wpld ≡ down
  pub idle : s.chip.rest.works.running ≡ Work.Nothing
  pub nothing_suspended : s.chip.rest.works.suspended ≡ Work.Nothing
  pub same_security : s.security ≡ t.security
  pub same_size : s.array.size ≡ t.array.size
  pub alike : (a : ℕ) → a < array_size_lem → key s.chip.rest.locks.protection a ≡ false → s.array.byte a ≡ t.array.byte a

-- frames and completions, no power cut
abbrev pub Uncut : List Event → Type 0
Uncut [] = Unit {0}
Uncut (sends f ∷ es) = Uncut es
Uncut (completes ∷ es) = Uncut es
Uncut (cuts t ∷ es) = ⊥

-- after an event: nothing tells the two apart, the rest stays alike, and each chip's own key bytes are what they were at the start.
-- The key blocks are those of the start
pub record Kept (key : ℕ → ℕ → Bool) (s t : State) (o q : Outcome) : Type 0 where
  pub same_number : o.number ≡ q.number
  pub same_reply : o.reply ≡ q.reply
  pub same_marks : o.marks ≡ q.marks
  pub same_record : o.chip ≡ q.chip
  pub same_security : o.security ≡ q.security
  pub same_size : o.array.size ≡ q.array.size
  pub alike : (a : ℕ) → a < array_size_lem → key s.chip.rest.locks.protection a ≡ false → o.array.byte a ≡ q.array.byte a
  pub first_keys : (a : ℕ) → a < array_size_lem → key s.chip.rest.locks.protection a ≡ true → o.array.byte a ≡ s.array.byte a
  pub second_keys : (a : ℕ) → a < array_size_lem → key s.chip.rest.locks.protection a ≡ true → q.array.byte a ≡ t.array.byte a

-- after every event of two runs
abbrev pub AllKept : (ℕ → ℕ → Bool) → State → State → List Outcome → List Outcome → Type 0
AllKept key s t [] [] = Unit {0}
AllKept key s t [] (q ∷ qs) = ⊥
AllKept key s t (o ∷ os) [] = ⊥
AllKept key s t (o ∷ os) (q ∷ qs) = Kept key s t o q × AllKept key s t os qs

abbrev pub KeepsKeys : (ℕ → ℕ → Bool) → Bool → (List Event → Type 0) → Type 0
KeepsKeys key down Allowed = (s t : State) (es : List Event) → TwoChips key down s t → Allowed es → AllKept key s t (run s es) (run t es)

abbrev pub Demand3 : Type 0
Demand3 = KeepsKeys key_place true Uncut

-- the same of code: two chains of outcomes that meet the public guarantees, with the same calls
abbrev pub Demand3OfCode : Type 0
Demand3OfCode =
    (b d : Bench) (es : List Call) (gs hs : List Returned) → TwoChips key_place true (state_of b) (state_of d) → Uncut (events_of es)
    → Chain b es gs → Chain d es hs
    → AllKept key_place (state_of b) (state_of d) (outcomes_of gs) (outcomes_of hs)
