-- No second outcome: whatever meets the guarantee of a public function of this crate at the same input is the same tally. Assumes nothing.
use Rattle.rules.proofs.Promises.{one}
use Rattle.rules.proofs.Outcomes.{OneResult}
use Rattle.tallies.proofs.no_events.Reads as no-events
use Rattle.tallies.proofs.with_event.Reads as with-event
use Rattle.tallies.proofs.with_wrong_line.Reads as with-wrong-line
use Rattle.tallies.proofs.with_unmet.Reads as with-unmet
use Rattle.tallies.proofs.sum_of.Reads as sum_of

pub no_events_one : OneResult no-events.Post
no_events_one κ a x y r r' p q = one p q

pub with_event_one : OneResult with-event.Post
with_event_one κ a x y r r' p q = one p q

pub with_wrong_line_one : OneResult with-wrong-line.Post
with_wrong_line_one κ a x y r r' p q = one p q

pub with_unmet_one : OneResult with-unmet.Post
with_unmet_one κ a x y r r' p q = one p q

pub sum_of_one : OneResult sum_of.Post
sum_of_one κ a x y r r' p q = one p q
