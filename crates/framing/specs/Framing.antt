-- What an accepted 99 and any other frame are asked, and what a frame that is turned away gets.
use Rattle.std.specs.Prelude.{ℕ, ◌<◌, ◌≡◌, Bool, true, false, List, [], ◌∷◌, length, Err}
use Rattle.rules.specs.declared.Circumstances.{Circumstances}
use Rattle.rules.specs.declared.Refusal.{Refusal}
use Rattle.rules.specs.declared.Rest.{Rest}
use Rattle.rules.specs.declared.Turn.{Turn}
use Rattle.rules.specs.Words.{pick, lent, written}
use Rattle.rules.specs.Fields.{chip_of}
use Rattle.rules.specs.Numbers.{state_right, frame_right}
use Rattle.rules.specs.Promises.{Bench, Returned, zeroed, bench_of, carried_of, state_of, frame_of, FramePromise}
use Rattle.rules.specs.Tears.{resets}

-- an accepted 99
pub record Resettable (r : Rest) (page array security reply marks : List ℕ) : Type 0 where
  pub paged : length page ≡ 256
  pub right : state_right (state_of (bench_of (chip_of page r) array security)) ≡ true
  pub taken : resets true r (0x99 ∷ []) (length reply) (length marks) ≡ true

-- any other frame keeps its promise whatever it carries beside its bytes and buffers
abbrev pub PlainPromise : Bench → List ℕ → List ℕ → List ℕ → Returned → Type 0
PlainPromise b sent reply marks g = (x : Circumstances) → FramePromise b (carried_of sent reply marks x) g

-- one that is neither malformed nor empty
pub record Commandable (r : Rest) (page array security sent reply marks : List ℕ) : Type 0 where
  pub paged : length page ≡ 256
  pub right : state_right (state_of (bench_of (chip_of page r) array security)) ≡ true
  pub fits : frame_right (frame_of (carried_of sent reply marks zeroed)) ≡ true
  pub some : 0 < length sent
  pub plain : resets true r sent (length reply) (length marks) ≡ false

-- what a frame gets that is malformed (not right) or empty
pub record TurnedAway (r : Rest) (right : Bool) (reply marks : List ℕ) (t : Turn) (reply' marks' : List ℕ) : Type 0 where
  pub turn : t ≡ record { answer = Err (pick right Refusal.Empty Refusal.Malformed); rest = r }
  pub bytes : lent reply' ≡ pick right (written (length reply) (λ i. 0xFF)) (lent reply)
  pub known : lent marks' ≡ pick right (written (length marks) (λ i. 0)) (lent marks)
