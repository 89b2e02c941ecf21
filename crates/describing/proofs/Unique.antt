-- No second outcome: whatever meets the guarantee of a public function of this crate at the same input is the same result. Assumes nothing.
use Rattle.rules.proofs.Promises.{one}
use Rattle.rules.proofs.Outcomes.{OneResult}
use Rattle.describing.proofs.works.span_of.Reads as span-of
use Rattle.describing.proofs.works.work.Reads as work
use Rattle.describing.proofs.works.work_places.Reads as work-places
use Rattle.describing.proofs.works.work_cut.Reads as work-cut
use Rattle.describing.proofs.commands.answer.Reads as answer
use Rattle.describing.proofs.commands.reply_on_row.Reads as reply-on-row
use Rattle.describing.proofs.commands.less.Reads as less
use Rattle.describing.proofs.commands.opcode_of.Reads as opcode-of

pub span_of_one : OneResult span-of.Post
span_of_one κ a x y r r' p q = one p.0 q.0

pub work_one : OneResult work.Post
work_one κ a x y r r' p q = one p q

pub work_places_one : OneResult work-places.Post
work_places_one κ a x y r r' p q = one p q

pub work_cut_one : OneResult work-cut.Post
work_cut_one κ a x y r r' p q = one p q

pub answer_one : OneResult answer.Post
answer_one κ a x y r r' p q = one p q

pub reply_on_row_one : OneResult reply-on-row.Post
reply_on_row_one κ a x y r r' p q = one p q

pub less_one : OneResult less.Post
less_one κ a x y r r' p q = one p q

pub opcode_of_one : OneResult opcode-of.Post
opcode_of_one κ a x y r r' p q = one p q
