-- What the exported functions of the station list give back and leave: the number, the polls and all lent bytes, in terms of a call and the record's code.
use Rattle.std.specs.Prelude.{ℕ, ◌≡◌, List}
use Rattle.rules.specs.Words.{pick, Lent, lent}
use Rattle.rules.specs.Numbers.{State}
use Rattle.rules.specs.Promises.{bench_of, state_of}
use Rattle.record_code.specs.Layout.{code, decode}
use Rattle.stations.specs.Promises.{Desk, Came, stored, Looked, looked_up}
use Rattle.station_bench.specs.declared.Stored.{Stored}

-- the number, the polls, the record's bytes and what the desk lends
pub record Told : Type 0 where
  pub number : ℕ
  pub polls : ℕ
  pub bytes : List ℕ
  pub array : Lent
  pub security : Lent
  pub reply : Lent
  pub marks : Lent

abbrev pub told_of : ℕ → ℕ → List ℕ → Desk → Told
told_of number polls bytes d =
    record {
      number = number;
      polls = polls;
      bytes = bytes;
      array = lent d.array;
      security = lent d.security;
      reply = lent d.reply;
      marks = lent d.marks;
    }

-- what a call came to, with the code of its record
abbrev pub told_by : Came → Told
told_by c =
    record {
      number = c.ended.number;
      polls = c.ended.polls;
      bytes = code c.ended.state.chip;
      array = c.ended.state.array;
      security = c.ended.state.security;
      reply = c.reply;
      marks = c.marks;
    }

-- the state of the record in the bytes
abbrev pub state_in : List ℕ → Desk → State
state_in bytes d = state_of (bench_of (decode bytes).chip d.array d.security)

-- bytes that are no record's code get 1, and nothing changes
unfoldable pub stored_in : List ℕ → Desk → ℕ → List ℕ → ℕ → List ℕ → Told
stored_in bytes d n body allowance list =
    pick (decode bytes).known (told_by (stored (state_in bytes d) (lent d.reply) (lent d.marks) n body allowance list)) (told_of 1 0 bytes d)

-- lookup has a buffer too
pub record Found : Type 0 where
  pub told : Told
  pub buffer : List ℕ

abbrev pub found_of : Told → List ℕ → Found
found_of t buffer = record { told = t; buffer = buffer }

abbrev pub found_by : Looked → Found
found_by l = found_of (told_by l.came) l.buffer

unfoldable pub found_in : List ℕ → Desk → ℕ → List ℕ → Found
found_in bytes d n buffer =
    pick (decode bytes).known (found_by (looked_up (state_in bytes d) (lent d.reply) (lent d.marks) n buffer)) (found_of (told_of 1 0 bytes d) buffer)

-- ---- the promises

pub record StorePromise (bytes : List ℕ) (d : Desk) (n : ℕ) (body : List ℕ) (allowance : ℕ) (list : List ℕ) (r : Stored) (bytes' : List ℕ) (d' : Desk) : Type 0 where
  pub equal : told_of r.number r.polls bytes' d' ≡ stored_in bytes d n body allowance list

-- a lookup makes no poll
pub record FindPromise (bytes : List ℕ) (d : Desk) (n : ℕ) (buffer : List ℕ) (r : ℕ) (bytes' : List ℕ) (d' : Desk) (buffer' : List ℕ) : Type 0 where
  pub equal : found_of (told_of r 0 bytes' d') buffer' ≡ found_in bytes d n buffer
