-- 02, W-206: what the two functions give back and leave, one equation each. The old number and polls of the record are not looked at.
use Rattle.std.specs.Prelude.{ℕ, ◌≡◌, Bool, List, eqb}
use Rattle.rules.specs.Words.{pick, Lent, lent}
use Rattle.rules.specs.Numbers.{State}
use Rattle.rules.specs.Machine.{step}
use Rattle.rules.specs.Promises.{bench_of, state_of}
use Rattle.stations.specs.declared.StoreRecord.{StoreRecord}
use Rattle.stations.specs.Slots.{found}
use Rattle.stations.specs.Calls.{Script, Ended, ended_of, played, reading, shown_by, store_right, lookup_right, store_call, lookup_call}

-- ---- what is lent with a call, and what it leaves: the two memories, the read's reply and marks

pub record Desk : Type 0 where
  pub array : List ℕ
  pub security : List ℕ
  pub reply : List ℕ
  pub marks : List ℕ

abbrev pub desk_of : List ℕ → List ℕ → List ℕ → List ℕ → Desk
desk_of array security reply marks = record { array = array; security = security; reply = reply; marks = marks }

abbrev pub state_at : StoreRecord → Desk → State
state_at s d = state_of (bench_of s.chip d.array d.security)

-- ---- the whole of what a call comes to

pub record Came : Type 0 where
  pub ended : Ended
  pub reply : Lent
  pub marks : Lent

abbrev pub came_of : StoreRecord → Desk → Came
came_of r d = record { ended = ended_of r.number r.polls (state_at r d); reply = lent d.reply; marks = lent d.marks }

-- a call that is right sends the one read, which leaves its reply and its marks; another sends nothing
abbrev pub came_by : Bool → State → Lent → Lent → Script → Came
came_by right s reply marks call =
    let o = step s (reading reply marks) in
    record { ended = played s call; reply = pick right o.reply reply; marks = pick right o.marks marks }

unfoldable pub stored : State → Lent → Lent → ℕ → List ℕ → ℕ → List ℕ → Came
stored s reply marks n bytes allowance list =
    came_by (store_right reply marks bytes allowance) s reply marks (store_call reply marks n bytes allowance list)

-- lookup has a buffer too: "a refusal leaves its buffer unchanged"
pub record Looked : Type 0 where
  pub came : Came
  pub buffer : List ℕ

abbrev pub looked_of : Came → List ℕ → Looked
looked_of c buffer = record { came = c; buffer = buffer }

unfoldable pub looked_up : State → Lent → Lent → ℕ → List ℕ → Looked
looked_up s reply marks n buffer =
    let call = lookup_call reply marks n buffer in
    looked_of (came_by (lookup_right reply marks buffer) s reply marks call)
    (pick (eqb (played s call).number 0) (found (shown_by (step s (reading reply marks))) n) buffer)

-- ---- the promises

pub record StorePromise (s : StoreRecord) (d : Desk) (n : ℕ) (bytes : List ℕ) (allowance : ℕ) (list : List ℕ) (r : StoreRecord) (d' : Desk) : Type 0 where
  pub equal : came_of r d' ≡ stored (state_at s d) (lent d.reply) (lent d.marks) n bytes allowance list

pub record LookupPromise (s : StoreRecord) (d : Desk) (n : ℕ) (buffer : List ℕ) (r : StoreRecord) (d' : Desk) (buffer' : List ℕ) : Type 0 where
  pub equal : looked_of (came_of r d') buffer' ≡ looked_up (state_at s d) (lent d.reply) (lent d.marks) n buffer
