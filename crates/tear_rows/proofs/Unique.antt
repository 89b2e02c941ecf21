-- No second outcome: whatever meets the guarantee of a public function of this crate at the same input is the same result. Assumes nothing.
use Rattle.rules.proofs.Promises.{one}
use Rattle.rules.proofs.Outcomes.{OneResult}
use Rattle.tear_rows.proofs.stopped.Reads as stopped
use Rattle.tear_rows.proofs.torn.Reads as torn

pub stopped_one : OneResult stopped.Post
stopped_one κ a x y r r' p q = one p q

pub torn_one : OneResult torn.Post
torn_one κ a x y r r' p q = one p q
