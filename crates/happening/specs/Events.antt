-- Frames, completions and power cuts of a script: the event, and what the line expected of it.
use Rattle.std.specs.Prelude.{ℕ, min, ◌≡◌, List, length}
use Rattle.rules.specs.declared.Chip.{Chip}
use Rattle.script.specs.declared.Line.{Line}
use Rattle.expecting.specs.declared.Verdict.{Verdict}
use Rattle.expecting.specs.Expectations.{Judged, unmet}
use Rattle.tallies.specs.Tallies.{after_event}
use Rattle.chip.specs.declared.events.Event.{Event}
use Rattle.standing.specs.declared.Playing.{Playing}
use Rattle.standing.specs.Benches.{front}
use Rattle.standing.specs.Expected.{expectation}
use Rattle.lending.specs.Lending.{wanted, marks_wanted, outcome, Happened}

abbrev pub JudgedLine : Playing → Event → Line → ℕ → List ℕ → List ℕ → List ℕ → List ℕ → Verdict → Type 0
JudgedLine p e l number reply marks expected known v =
    Judged (expectation l.slots (min l.expected (length expected))) p.bench.strict number
    (front (wanted e l.slots) reply) (front (marks_wanted e l.slots) marks) (front l.expected expected) (front l.expected known) v

-- the bench after an event that gave this number and left this chip, with what of its expectations is not met
abbrev pub counted : Playing → ℕ → Chip → Verdict → Playing
counted p number chip v =
    record {
      bench = record { chip = chip; tally = after_event p.bench.tally number (unmet v); line = p.bench.line; array = p.bench.array; security = p.bench.security; full = p.bench.full; strict = p.bench.strict };
      reading = p.reading;
      before = p.before;
      number = number;
      verdict = v;
      held = p.held;
    }

pub record EventPlayed (p : Playing) (e : Event) (l : Line) (array security sent expected known reply marks : List ℕ) (p' : Playing) (array' security' reply' marks' : List ℕ) : Type 0 where
  pub happened : Happened (outcome e p.bench l array security sent reply marks) p'.number p'.bench.chip array security reply marks array' security' reply' marks'
  pub judged : JudgedLine p e l p'.number reply' marks' expected known p'.verdict
  pub playing : p' ≡ counted p p'.number p'.bench.chip p'.verdict
