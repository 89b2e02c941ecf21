-- Any of the three events where the page buffer lies with the caller: the call that it is, and what it is asked.
use Rattle.std.specs.Prelude.{ℕ, ◌≡◌, Bool, true, false, List, [], ◌∷◌, length}
use Rattle.rules.specs.declared.Circumstances.{Circumstances}
use Rattle.rules.specs.declared.Rest.{Rest}
use Rattle.rules.specs.Fields.{chip_of}
use Rattle.rules.specs.Numbers.{state_right}
use Rattle.rules.specs.Promises.{Bench, Returned, bench_of, carried_of, state_of}
use Rattle.rules.specs.Demands.{Call, frame_call, completion_call, cut_call, Meets}
use Rattle.rules.specs.Tears.{resets}
use Rattle.chip.specs.declared.events.Event.{Event}

-- the call that it is, where these bytes are lent; of its circumstances a power cut has the tear
abbrev pub call_of : Event → List ℕ → List ℕ → List ℕ → Circumstances → Call
call_of Event.Frame sent reply marks x = frame_call (carried_of sent reply marks x)
call_of Event.Completion sent reply marks x = completion_call
call_of Event.Cut sent reply marks x = cut_call x.tear

-- a completion and a power cut are lent no reply
abbrev pub LentFor : Event → List ℕ → Type 0
LentFor Event.Frame l = Unit {0}
LentFor Event.Completion l = l ≡ []
LentFor Event.Cut l = l ≡ []

-- ---- an event that stops what runs

-- a power cut that is not refused
abbrev pub cutting : Event → Bool → Bool
cutting Event.Frame known = false
cutting Event.Completion known = false
cutting Event.Cut known = known

-- an accepted 99
abbrev pub resetting : Event → Bool → Rest → List ℕ → ℕ → ℕ → Bool
resetting Event.Frame known r sent y m = resets known r sent y m
resetting Event.Completion known r sent y m = false
resetting Event.Cut known r sent y m = false

-- with power-up it is the power cut, without it the 99
abbrev pub stop_call : Bool → List ℕ → List ℕ → Circumstances → Call
stop_call true reply marks x = cut_call x.tear
stop_call false reply marks x = frame_call (carried_of (0x99 ∷ []) reply marks x)

abbrev pub StoppedWith : Bool → Rest → List ℕ → List ℕ → Type 0
StoppedWith true r reply marks = (reply ≡ []) × (marks ≡ [])
StoppedWith false r reply marks = resets true r (0x99 ∷ []) (length reply) (length marks) ≡ true

pub record Stoppable (up : Bool) (r : Rest) (page array security reply marks : List ℕ) : Type 0 where
  pub paged : length page ≡ 256
  pub right : state_right (state_of (bench_of (chip_of page r) array security)) ≡ true
  pub taken : StoppedWith up r reply marks

-- ---- one that does not

pub record Turnable (e : Event) (known : Bool) (r : Rest) (page array security sent reply marks : List ℕ) : Type 0 where
  pub paged : length page ≡ 256
  pub judged : known ≡ state_right (state_of (bench_of (chip_of page r) array security))
  pub uncut : cutting e known ≡ false
  pub unreset : resetting e known r sent (length reply) (length marks) ≡ false
  pub bytes : LentFor e reply
  pub marked : LentFor e marks

-- it meets its guarantee whatever it carries beside its bytes and buffers
abbrev pub TurnPromise : Bench → Event → List ℕ → List ℕ → List ℕ → Returned → Type 0
TurnPromise b e sent reply marks g = (x : Circumstances) → Meets b (call_of e sent reply marks x) g
