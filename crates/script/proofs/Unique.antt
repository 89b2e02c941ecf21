-- No second outcome: whatever meets the guarantee of a public function of this crate at the same input is the same result and the same lent bytes.
-- Each guarantee is an equation of the whole. Assumes nothing.
use Rattle.rules.proofs.Promises.{one}
use Rattle.rules.proofs.Outcomes.{OneOutcome, OneResult, OneList}
use Rattle.script.specs.Lines.{held}
use Rattle.script.proofs.start.Reads as start
use Rattle.script.proofs.step.Reads as step
use Rattle.script.proofs.finish.Reads as finish
use Rattle.script.proofs.lines.fresh.Reads as fresh
use Rattle.script.proofs.lines.advanced.Reads as advanced
use Rattle.script.proofs.lines.line_of.Reads as Line-of

pub start_one : OneResult start.Post
start_one κ a x y r r' p q = one p q

-- the reading, the frame, the expected bytes and their marks
pub step_one : OneOutcome step.Post (λ r x. held r x.1.1.0.now x.1.1.1.0.now x.1.1.1.1.0.now)
step_one κ a x y r r' p q = one p.outcome q.outcome

-- and the remark
pub step_remark_one : OneList step.Post (λ x. x.1.1.1.1.1.0.now)
step_remark_one κ a x y r r' p q = one p.remarks q.remarks

pub finish_one : OneOutcome finish.Post (λ r x. held r x.1.0.now x.1.1.0.now x.1.1.1.0.now)
finish_one κ a x y r r' p q = one p.outcome q.outcome

pub line_of_one : OneResult Line-of.Post
line_of_one κ a x y r r' p q = one p q

-- ---- inside the crate

pub fresh_one : OneResult fresh.Post
fresh_one κ a x y r r' p q = one p q

pub advanced_one : OneResult advanced.Post
advanced_one κ a x y r r' p q = one p q
