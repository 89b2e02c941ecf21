-- What each public function promises: one equation between what it gives back and leaves, all lent memory included, and the machine's outcome.
use Rattle.std.specs.Prelude.{◌≡◌, List, ℕ}
use Rattle.rules.specs.declared.After.{After}
use Rattle.rules.specs.declared.Chip.{Chip}
use Rattle.rules.specs.declared.Circumstances.{Circumstances}
use Rattle.rules.specs.declared.Tear.{Tear}
use Rattle.rules.specs.declared.Turn.{Turn}
use Rattle.rules.specs.Words.{lent}
use Rattle.rules.specs.Works.{tear_of}
use Rattle.rules.specs.Fields.{chip_of}
use Rattle.rules.specs.Numbers.{answer_number, State, Frame}
use Rattle.rules.specs.Machine.{Outcome, frame, completion, power_cut}

-- ---- the state before, what a frame carries, and what came, as they are lent

-- a record and the bytes of the two memories lent with it
pub record Bench : Type 0 where
  pub chip : Chip
  pub array : List ℕ
  pub security : List ℕ

pub record Carried : Type 0 where
  pub sent : List ℕ
  pub reply : List ℕ
  pub marks : List ℕ
  pub circumstances : Circumstances

-- where none are said: k 0 and m 00
abbrev pub zeroed : Circumstances
zeroed = record { tear = tear_of 0 0 }

-- the result, and what all lent memory holds at the end
pub record Returned : Type 0 where
  pub after : After
  pub array : List ℕ
  pub security : List ℕ
  pub reply : List ℕ
  pub marks : List ℕ

abbrev pub bench_of : Chip → List ℕ → List ℕ → Bench
bench_of c array security = record { chip = c; array = array; security = security }

abbrev pub carried_of : List ℕ → List ℕ → List ℕ → Circumstances → Carried
carried_of sent reply marks x = record { sent = sent; reply = reply; marks = marks; circumstances = x }

abbrev pub returned_of : After → List ℕ → List ℕ → List ℕ → List ℕ → Returned
returned_of r array security reply marks = record { after = r; array = array; security = security; reply = reply; marks = marks }

-- what an event gives back, with the page buffer that it leaves
abbrev pub after_of : Turn → List ℕ → After
after_of t page = record { answer = t.answer; chip = chip_of page t.rest }

-- ---- the same for the machine

abbrev pub state_of : Bench → State
state_of b = record { chip = b.chip; array = lent b.array; security = lent b.security }

abbrev pub frame_of : Carried → Frame
frame_of f = record { sent = f.sent; reply = lent f.reply; marks = lent f.marks; circumstances = f.circumstances }

abbrev pub outcome_of : Returned → Outcome
outcome_of g =
    record {
      number = answer_number g.after.answer;
      chip = g.after.chip;
      array = lent g.array;
      security = lent g.security;
      reply = lent g.reply;
      marks = lent g.marks;
    }

-- ---- the promises

pub record FramePromise (b : Bench) (f : Carried) (g : Returned) : Type 0 where
  pub outcome : outcome_of g ≡ frame (state_of b) (frame_of f)

pub record CompletionPromise (b : Bench) (g : Returned) : Type 0 where
  pub outcome : outcome_of g ≡ completion (state_of b)

pub record CutPromise (b : Bench) (t : Tear) (g : Returned) : Type 0 where
  pub outcome : outcome_of g ≡ power_cut (state_of b) t
