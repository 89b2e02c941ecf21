-- What the exported functions give back and leave: the number and all lent bytes, in terms of the machine and the record's code.
use Rattle.std.specs.Prelude.{ℕ, ◌≡◌, Bool, true, List, [], eqb, length, take}
use Rattle.rules.specs.declared.Circumstances.{Circumstances}
use Rattle.rules.specs.Words.{pick, Lent, lent}
use Rattle.rules.specs.Works.{tear_of}
use Rattle.rules.specs.Commands.{new_of}
use Rattle.rules.specs.Numbers.{State}
use Rattle.rules.specs.Machine.{Outcome, step}
use Rattle.rules.specs.Promises.{Carried, zeroed, bench_of, carried_of, state_of}
use Rattle.rules.specs.Demands.{Call, frame_call, completion_call, cut_call, event_of}
use Rattle.record_code.specs.Layout.{record_size, code, is_code, rest_in, decode}
use Rattle.chip.specs.Turns.{Stoppable}
use Rattle.bench.specs.declared.Passed.{Passed}

-- ---- what is lent before, and what came

-- a bench in bytes: those of the record, and those of the two memories
pub record LentBench : Type 0 where
  pub bytes : List ℕ
  pub array : List ℕ
  pub security : List ℕ

-- the number, and what all lent memory holds at the end
pub record Came : Type 0 where
  pub number : ℕ
  pub bytes : List ℕ
  pub array : List ℕ
  pub security : List ℕ
  pub reply : List ℕ
  pub marks : List ℕ

abbrev pub lent_bench_of : List ℕ → List ℕ → List ℕ → LentBench
lent_bench_of bytes array security = record { bytes = bytes; array = array; security = security }

abbrev pub came_of : ℕ → List ℕ → List ℕ → List ℕ → List ℕ → List ℕ → Came
came_of n bytes array security reply marks =
    record { number = n; bytes = bytes; array = array; security = security; reply = reply; marks = marks }

-- what a call carries beside the bench; a completion and a power cut are lent no reply
abbrev pub carried_by : Call → Carried
carried_by (frame_call f) = f
carried_by completion_call = carried_of [] [] [] zeroed
carried_by (cut_call t) = carried_of [] [] [] zeroed

-- the circumstances that C passes with a frame
abbrev pub circumstances_of : ℕ → ℕ → Circumstances
circumstances_of k m = record { tear = tear_of k m }

abbrev pub circumstances_in : Passed → Circumstances
circumstances_in x = circumstances_of x.k x.m

-- the number n, and every lent byte as it was
abbrev pub untouched : ℕ → LentBench → Call → Came
untouched n b e = came_of n b.bytes b.array b.security (carried_by e).reply (carried_by e).marks

-- ---- the same for the machine

-- the state whose record the bytes are the code of
abbrev pub state_in : LentBench → State
state_in b = state_of (bench_of (decode b.bytes).chip b.array b.security)

-- what came, its memories as the machine has them
pub record Seen : Type 0 where
  pub number : ℕ
  pub bytes : List ℕ
  pub array : Lent
  pub security : Lent
  pub reply : Lent
  pub marks : Lent

abbrev pub seen_of : Came → Seen
seen_of g =
    record {
      number = g.number;
      bytes = g.bytes;
      array = lent g.array;
      security = lent g.security;
      reply = lent g.reply;
      marks = lent g.marks;
    }

-- an outcome of the machine, its record as bytes
abbrev pub coded : Outcome → Seen
coded o =
    record {
      number = o.number;
      bytes = code o.chip;
      array = o.array;
      security = o.security;
      reply = o.reply;
      marks = o.marks;
    }

-- ---- the three events: a call of fulkibono_frame, fulkibono_completion or fulkibono_power_cut

-- a record's code goes through the machine; bytes that are no code get refusal 1, and nothing at all changes
unfoldable pub called : LentBench → Call → Seen
called b e = pick (decode b.bytes).known (coded (step (state_in b) (event_of e))) (seen_of (untouched 1 b e))

pub record CallPromise (b : LentBench) (e : Call) (g : Came) : Type 0 where
  pub outcome : seen_of g ≡ called b e

-- what is asked where an event stops what runs: a record's code, and what the chip asks
pub record StopAsked (up : Bool) (bytes array security reply marks : List ℕ) : Type 0 where
  pub coded : is_code bytes ≡ true
  pub chip : Stoppable up (rest_in bytes) (take 256 bytes) array security reply marks

-- ---- fulkibono_new and fulkibono_new_old: the code of a new chip, of BA and of the old part, in as many bytes as a record has

unfoldable pub new_bytes : Bool → List ℕ → ℕ × List ℕ
new_bytes ba bytes = pick (eqb (length bytes) record_size) (0, code (new_of ba)) (1, bytes)

pub record NewPromise (ba : Bool) (bytes : List ℕ) (n : ℕ) (bytes' : List ℕ) : Type 0 where
  pub outcome : (n, bytes') ≡ new_bytes ba bytes
