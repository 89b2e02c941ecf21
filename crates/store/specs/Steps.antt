-- What a step of a call promises: it is the machine's, and what it leaves of the chip and the memories.
use Rattle.std.specs.Prelude.{ℕ, ◌≡◌, Bool, List, [], ◌∷◌}
use Rattle.rules.specs.Words.{bit, pick}
use Rattle.rules.specs.Numbers.{Answer, State, answer_number}
use Rattle.rules.specs.Machine.{Outcome, completion, step, left}
use Rattle.rules.specs.Promises.{Bench, bench_of, state_of}
use Rattle.stations.specs.declared.StoreRecord.{StoreRecord}
use Rattle.stations.specs.Calls.{Ended, ended_of, short}
use Rattle.store.specs.declared.writes.Polled.{Polled}

abbrev pub read_frame : List ℕ
read_frame = 0x03 ∷ 0x01 ∷ 0x00 ∷ 0x00 ∷ []

-- a call makes at most 2,050 writes of at most 65,535 polls each
abbrev pub most_polls : ℕ
most_polls = 134346750

abbrev pub leaves : StoreRecord → List ℕ → List ℕ → Ended
leaves r array security = ended_of r.number r.polls (state_of (bench_of r.chip array security))

pub record SentPromise (b : Bench) (sent : List ℕ) (a : Answer) (b' : Bench) : Type 0 where
  pub number : answer_number a ≡ (step (state_of b) (short sent)).number
  pub state : state_of b' ≡ left (step (state_of b) (short sent))

abbrev pub arrived_state : Bool → State → State
arrived_state arrives s = pick arrives (left (completion s)) s

pub record ArrivedPromise (arrives : Bool) (b b' : Bench) : Type 0 where
  pub state : state_of b' ≡ arrived_state arrives (state_of b)

abbrev pub polled_of : Bool → Bench → Outcome
polled_of arrives b = step (arrived_state arrives (state_of b)) (short (0x05 ∷ []))

pub record PolledPromise (arrives : Bool) (b : Bench) (r : Polled) (b' : Bench) : Type 0 where
  pub number : answer_number r.answer ≡ (polled_of arrives b).number
  pub busy : r.busy ≡ bit 0 ((polled_of arrives b).reply.byte 0)
  pub state : state_of b' ≡ left (polled_of arrives b)
