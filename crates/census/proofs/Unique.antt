-- No second outcome: whatever meets the guarantee of a public function of this crate at the same input is the same result. Assumes nothing.
use Rattle.rules.proofs.Promises.{one}
use Rattle.rules.proofs.Outcomes.{OneResult}
use Rattle.slots.proofs.Slots.{slot_one}
use Rattle.census.proofs.is_passed_over.Reads as is-passed-over
use Rattle.census.proofs.is_found.Reads as is_found
use Rattle.census.proofs.counted.Reads as counted
use Rattle.census.proofs.cut_after.Reads as cut-after
use Rattle.census.proofs.live_at.Reads as Live-at

pub is_passed_over_one : OneResult is-passed-over.Post
is_passed_over_one κ a x y r r' p q = one p q

pub is_found_one : OneResult is_found.Post
is_found_one κ a x y r r' p q = one p q

pub counted_one : OneResult counted.Post
counted_one κ a x y r r' p q = one p q

pub cut_after_one : OneResult cut-after.Post
cut_after_one κ a x y r r' p q = one p q

pub live_at_one : OneResult Live-at.Post
live_at_one κ a x y r r' p q = slot_one _ r r' p q
