-- An event on as much of the memories as is lent: what the chip gets, and what it leaves.
use Rattle.std.specs.Prelude.{ℕ, ◌%◌, min, ◌≡◌, List, eqb, ltb, length, get_or}
use Rattle.rules.specs.declared.Chip.{Chip}
use Rattle.rules.specs.declared.Tear.{Tear}
use Rattle.rules.specs.Words.{pick, Lent, lent, written}
use Rattle.rules.specs.Numbers.{State}
use Rattle.rules.specs.Machine.{Outcome, frame, completion, power_cut}
use Rattle.rules.specs.Works.{tear_of}
use Rattle.rules.specs.Promises.{bench_of, state_of}
use Rattle.rules.specs.Tears.{cleanly}
use Rattle.grammar.specs.Slots as slots
use Rattle.script.specs.declared.Line.{Line}
use Rattle.fields.specs.Records.{slot}
use Rattle.standing.specs.declared.Bench.{Bench}
use Rattle.chip.specs.declared.events.Event.{Event}
use Rattle.standing.specs.Benches.{front}

-- a memory whose first places became those of o
abbrev pub over : Lent → List ℕ → Lent
over o l = record { size = length l; byte = λ i. pick (ltb i o.size) (o.byte i) (get_or l i 0) }

-- ---- the event

-- as much of the memories as is lent
abbrev pub state_lent_lem : Bench → List ℕ → List ℕ → State
state_lent_lem b array security = state_of (bench_of b.chip (front b.array array) (front b.security security))

-- how many reply bytes a line wants, and how many marks: as many, where it does not say
abbrev pub wanted : Event → List ℕ → ℕ
wanted Event.Frame s = slot s slots.wanted
wanted Event.Completion s = 0
wanted Event.Cut s = 0

abbrev pub marks_wanted : Event → List ℕ → ℕ
marks_wanted Event.Frame s = pick (eqb (slot s slots.marks_given) 0) (slot s slots.wanted) (slot s slots.marks)
marks_wanted Event.Completion s = 0
marks_wanted Event.Cut s = 0

-- where it stops what runs: its count, and its byte or, where none stands, the m of document 01
abbrev pub tear_said : Chip → List ℕ → Tear
tear_said c s = pick (eqb (slot s slots.tearing) 0) (cleanly c.rest.works.running (slot s slots.from)) (tear_of (slot s slots.from) (slot s slots.tearing % 256))

-- what the machine makes of it. Reply and marks hold 5A and 07 before a frame, so that `kept` can be seen
abbrev pub outcome : Event → Bench → Line → List ℕ → List ℕ → List ℕ → List ℕ → List ℕ → Outcome
outcome Event.Frame b l array security sent reply marks =
    frame (state_lent_lem b array security)
    (record {
      sent = front l.sent sent;
      reply = written (min (wanted Event.Frame l.slots) (length reply)) (λ i. 0x5A);
      marks = written (min (marks_wanted Event.Frame l.slots) (length marks)) (λ i. 0x07);
      circumstances = record { tear = tear_said b.chip l.slots };
    })
outcome Event.Completion b l array security sent reply marks = completion (state_lent_lem b array security)
outcome Event.Cut b l array security sent reply marks = power_cut (state_lent_lem b array security) (tear_said b.chip l.slots)

-- the number and the chip are the machine's, and of the memories the part that it had
pub record Ended (o : Outcome) (number : ℕ) (chip : Chip) (array security array' security' : List ℕ) : Type 0 where
  pub number_is : number ≡ o.number
  pub chip_is : chip ≡ o.chip
  pub array_is : lent array' ≡ over o.array array
  pub security_is : lent security' ≡ over o.security security

-- and of reply and marks
pub record Happened (o : Outcome) (number : ℕ) (chip : Chip) (array security reply marks array' security' reply' marks' : List ℕ) : Type 0 where
  pub ended : Ended o number chip array security array' security'
  pub reply_is : lent reply' ≡ over o.reply reply
  pub marks_are : lent marks' ≡ over o.marks marks
