-- One SPI operation: the completion that is due, one frame of the machine, and what the tool is shown.
use Rattle.std.specs.Prelude.{ℕ, zero, suc, ◌≡◌, Bool, true, false, ◌&&◌, List, [], ◌∷◌, eqb}
use Rattle.rules.specs.declared.Circumstances.{Circumstances}
use Rattle.rules.specs.Words.{pick, Lent, lent}
use Rattle.rules.specs.Registers.{busy}
use Rattle.rules.specs.Frames.{opcode}
use Rattle.rules.specs.Numbers.{State, Frame}
use Rattle.rules.specs.Machine.{Outcome, frame, completion, left}
use Rattle.rules.specs.Promises.{bench_of, carried_of, state_of, frame_of}
use Rattle.rules.specs.Promises as promises
use Rattle.rules.specs.Tears.{OfBytes, with_tear, cleanly}
use Rattle.operating.specs.declared.Bench.{Bench}
use Rattle.serprog.specs.Commands.{ack}
use Rattle.serprog.specs.Showing.{shown_reply}

-- ---- time: "completion arrives before the second status read after a long command"

-- the completion comes before a frame with this opcode: the chip is busy, and this is its second status read
abbrev pub due_before : Bool → ℕ → ℕ → Bool
due_before busy reads op = busy && eqb op 0x05 && eqb reads 1

-- the status reads since the chip is busy, 1 for all after the first
abbrev pub reads_after : Bool → ℕ → ℕ → ℕ
reads_after busy reads op = pick busy (pick (eqb op 0x05) 1 reads) 0

-- ---- the operation

abbrev pub settled_state : Bool → State → State
settled_state ends s = pick ends (left (completion s)) s

-- the whole of what an operation gives back and leaves
pub record Operated : Type 0 where
  pub bench : Bench
  pub array : Lent
  pub security : Lent
  pub reply : Lent
  pub marks : Lent

-- of a frame with this opcode, by the machine's outcome
abbrev pub finished : Bench → ℕ → Outcome → Operated
finished b op o =
    record {
      bench = record { chip = o.chip; reads = reads_after (busy o.chip.rest) b.reads op; disguise = b.disguise };
      array = o.array;
      security = o.security;
      reply = shown_reply b.disguise (eqb o.number 0) op o.reply;
      marks = o.marks;
    }

unfoldable pub operated : Bench → State → Frame → Operated
operated b s f =
    let op = opcode f.sent in
    finished b op (frame (settled_state (due_before (busy b.chip.rest) b.reads op) s) f)

-- ---- W-205: serprog says no k and no m, so that a reset is document 01's

abbrev pub untorn : Bench → Circumstances
untorn b = record { tear = cleanly b.chip.rest.works.running 0 }

-- it tears nothing: an operation leaves the memories as the completion before it did. Proved in proofs/Time
abbrev pub NothingTorn : Type 0
NothingTorn =
    (b : Bench) (s : State) (f : Frame) → s.chip ≡ b.chip → OfBytes s.array → OfBytes s.security
    → let t = settled_state (due_before (busy b.chip.rest) b.reads (opcode f.sent)) s in
    let o = operated b s (with_tear (untorn b).tear f) in
    (o.array ≡ t.array) × (o.security ≡ t.security)

-- ---- the promises

-- the chip with its memories before, and at the frame's beginning
pub record SettledPromise (ends : Bool) (s t : promises.Bench) : Type 0 where
  pub outcome : state_of t ≡ settled_state ends (state_of s)

abbrev pub leaves : Bench → List ℕ → List ℕ → List ℕ → List ℕ → Operated
leaves r array security reply marks =
    record { bench = r; array = lent array; security = lent security; reply = lent reply; marks = lent marks }

pub record OperationPromise (b : Bench) (array security sent reply marks : List ℕ) (r : Bench) (array' security' reply' marks' : List ℕ) : Type 0 where
  pub outcome : leaves r array' security' reply' marks' ≡ operated b (state_of (bench_of b.chip array security)) (frame_of (carried_of sent reply marks (untorn b)))

-- ---- an operation with its answer: 06, and then the reply

-- a byte, and then those of r
abbrev pub after_byte : ℕ → Lent → ℕ → ℕ
after_byte x r zero = x
after_byte x r (suc i) = r.byte i

abbrev pub after : ℕ → Lent → Lent
after x r = record { size = suc r.size; byte = after_byte x r }

abbrev pub answered_by : Operated → Operated
answered_by o = record { bench = o.bench; array = o.array; security = o.security; reply = after ack o.reply; marks = o.marks }

-- where the answer has room for the 06, the reply has what is left; else nothing happens
unfoldable pub answered_operation : Bench → List ℕ → List ℕ → List ℕ → List ℕ → List ℕ → Operated
answered_operation b array security sent [] marks = leaves b array security [] marks
answered_operation b array security sent (x ∷ reply) marks = answered_by (operated b (state_of (bench_of b.chip array security)) (frame_of (carried_of sent reply marks (untorn b))))

pub record AnswerPromise (b : Bench) (array security sent answer marks : List ℕ) (r : Bench) (array' security' answer' marks' : List ℕ) : Type 0 where
  pub outcome : leaves r array' security' answer' marks' ≡ answered_operation b array security sent answer marks
