-- 02, W-206: how a call goes. A call is a program of events in which each outcome decides what follows; it has three readings.
use Rattle.std.specs.Prelude.{ℕ, zero, suc, ◌+◌, Bool, true, false, ◌&&◌, List, [], ◌∷◌, eqb, leb, length, get_or}
use Rattle.rules.specs.Words.{bit, pick, Lent}
use Rattle.rules.specs.Numbers.{State}
use Rattle.rules.specs.Machine.{Outcome, Event, sends, completes, step, left}
use Rattle.rules.specs.Promises.{zeroed, carried_of, frame_of}
use Rattle.stations.specs.Slots.{Shown, data_size}
use Rattle.stations.specs.Plans.{Plan, refused, writing, storing, looking_up}

pub data Script : Type 0 where
  -- the call is over: its number and its polls
  ends : ℕ → ℕ → Script
  -- an event, and what its outcome calls for
  does : Event → (Outcome → Script) → Script

-- ---- the readings: what it comes to; each state on the way, the first and the last too, at which a power cut can come; the events that it makes

pub record Ended : Type 0 where
  pub number : ℕ
  pub polls : ℕ
  pub state : State

abbrev pub ended_of : ℕ → ℕ → State → Ended
ended_of number polls s = record { number = number; polls = polls; state = s }

unfoldable pub played : State → Script → Ended
played s (ends number polls) = ended_of number polls s
played s (does e next) = let o = step s e in played (left o) (next o)

unfoldable pub moments : State → Script → List State
moments s (ends number polls) = s ∷ []
moments s (does e next) = let o = step s e in s ∷ moments (left o) (next o)

unfoldable pub made : State → Script → List Event
made s (ends number polls) = []
made s (does e next) = let o = step s e in e ∷ made (left o) (next o)

-- ---- one write

-- a frame with room for one reply byte
abbrev pub short : List ℕ → Event
short bytes = sends (frame_of (carried_of bytes (0 ∷ []) (0 ∷ []) zeroed))

-- "If the chip refuses, the call ends with that number; only a done answer goes on to the next frame"
abbrev pub on_done : ℕ → Outcome → Script → Script
on_done polls o next = pick (eqb o.number 0) next (ends o.number polls)

-- the completion, where it arrives
abbrev pub arriving : Bool → Script → Script
arriving true next = does completes (λ o. next)
arriving false next = next

-- "polls status at most as many times as it was allowed": a polls are left, p were made of this write and n before it; the completion arrives before poll e of this write
unfoldable pub polling : ℕ → ℕ → ℕ → ℕ → (ℕ → Script) → Script
polling zero p e n next = ends 18 (n + p)
polling (suc a) p e n next =
    arriving (eqb (suc p) e) (does (short (0x05 ∷ [])) (λ o.
    on_done n o (pick (bit 0 (o.reply.byte 0)) (polling a (suc p) e n next) (next (n + suc p)))))

-- 06, the frame, polls
unfoldable pub write : ℕ → ℕ → List ℕ → ℕ → (ℕ → Script) → Script
write allowance e frame n next =
    does (short (0x06 ∷ [])) (λ o. on_done n o (does (short frame) (λ o. on_done n o (polling allowance 0 e n next))))

-- "a lent list says, for each write in turn, before which poll completion arrives (0 or no entry: never)": j writes were made before these
unfoldable pub writes : ℕ → List ℕ → ℕ → List (List ℕ) → ℕ → Script
writes allowance list j [] n = ends 0 n
writes allowance list j (f ∷ fs) n = write allowance (get_or list j 0) f n (writes allowance list (suc j) fs)

-- ---- the calls: 1 before anything is sent; the one read; what it calls for

abbrev pub list_size : ℕ
list_size = 65536

abbrev pub reading : Lent → Lent → Event
reading reply marks = sends (record { sent = 0x03 ∷ 0x01 ∷ 0x00 ∷ 0x00 ∷ []; reply = reply; marks = marks; circumstances = zeroed })

abbrev pub shown_by : Outcome → Shown
shown_by o p = record { byte = o.reply.byte p; mark = o.marks.byte p }

abbrev pub carried_out : ℕ → List ℕ → Plan → Script
carried_out allowance list (refused number) = ends number 0
carried_out allowance list (writing fs) = writes allowance list 0 fs 0

unfoldable pub calling : Bool → Lent → Lent → ℕ → List ℕ → (Shown → Plan) → Script
calling false reply marks allowance list plan = ends 1 0
calling true reply marks allowance list plan = does (reading reply marks) (λ o. on_done 0 o (carried_out allowance list (plan (shown_by o))))

-- both buffers hold the whole list
abbrev pub buffers_right : Lent → Lent → Bool
buffers_right reply marks = eqb reply.size list_size && eqb marks.size list_size

-- "an allowance above 65,535, or data or a lookup buffer not of 28 bytes, gets 1"
abbrev pub store_right : Lent → Lent → List ℕ → ℕ → Bool
store_right reply marks bytes allowance = buffers_right reply marks && eqb (length bytes) data_size && leb allowance 65535

abbrev pub lookup_right : Lent → Lent → List ℕ → Bool
lookup_right reply marks buffer = buffers_right reply marks && eqb (length buffer) data_size

unfoldable pub store_call : Lent → Lent → ℕ → List ℕ → ℕ → List ℕ → Script
store_call reply marks n bytes allowance list =
    calling (store_right reply marks bytes allowance) reply marks allowance list (λ v. storing v n bytes)

unfoldable pub lookup_call : Lent → Lent → ℕ → List ℕ → Script
lookup_call reply marks n buffer = calling (lookup_right reply marks buffer) reply marks 0 [] (λ v. looking_up v n)
