-- No second outcome: whatever meets the guarantee of a public function of this crate at the same input is the same result. An equation. Assumes nothing.
use Prim.Native.Nat.{ℕ}
use mathlib.Core.List.{List}
use Rattle.slots.proofs.Slots.{slot_one}
use Rattle.rules.proofs.Promises.{one}
use Rattle.rules.proofs.Outcomes.{OneOutcome, OneResult}
use Rattle.slots.proofs.ListRead.is_empty.Reads as is-empty
use Rattle.slots.proofs.ListRead.is_live.Reads as is_live
use Rattle.slots.proofs.ListRead.station_of.Reads as station_of
use Rattle.slots.proofs.ListRead.is_live_of.Reads as is-live-of
use Rattle.slots.proofs.ListRead.data.Reads as «data»
use Rattle.slots.proofs.ListRead.first_empty.Reads as first_empty
use Rattle.slots.proofs.ListRead.live_from.Reads as live-from

pub is_empty_one : OneResult is-empty.Post
is_empty_one κ a x y r r' p q = one p q

pub is_live_one : OneResult is_live.Post
is_live_one κ a x y r r' p q = one p q

pub station_one : OneResult station_of.Post
station_one κ a x y r r' p q = one p q

pub is_live_of_one : OneResult is-live-of.Post
is_live_of_one κ a x y r r' p q = one p q

pub data_one : OneOutcome {S = List ℕ} «data».Post (λ r x. r.now)
data_one κ a x y r r' p q = one p q

pub first_empty_one : OneResult first_empty.Post
first_empty_one κ a x y r r' p q = slot_one _ r r' p q

pub live_from_one : OneResult live-from.Post
live_from_one κ a x y r r' p q = slot_one _ r r' p.0 q.0
