-- No second outcome: whatever meets the guarantee of a public function of this crate at the same input leaves the same buffer. Assumes nothing.
use Rattle.rules.proofs.Promises.{one}
use Rattle.rules.proofs.Outcomes.{OneList}
use Rattle.pages.proofs.page_after.Reads as page-after
use Rattle.pages.proofs.page_rested.Reads as page-rested

pub page_after_one : OneList page-after.Post (λ a. a.1.1.0.now)
page_after_one κ a x y r r' p q = one p q

pub page_rested_one : OneList page-rested.Post (λ a. a.1.0.now)
page_rested_one κ a x y r r' p q = one p q
