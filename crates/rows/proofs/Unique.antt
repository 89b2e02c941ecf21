-- No second outcome: whatever meets the guarantee of a public function of this crate at the same input is the same result. Assumes nothing.
use Rattle.rules.proofs.Promises.{one}
use Rattle.rules.proofs.Outcomes.{OneResult}
use Rattle.rows.proofs.events.plain.Reads as plain
use Rattle.rows.proofs.events.numbered.Reads as numbered
use Rattle.rows.proofs.events.headed.Reads as headed
use Rattle.rows.proofs.events.below.Reads as below
use Rattle.rows.proofs.events.part.Reads as part
use Rattle.rows.proofs.events.sent.Reads as sent
use Rattle.rows.proofs.events.fits.Reads as fits
use Rattle.rows.proofs.events.ended.Reads as ended
use Rattle.rows.proofs.events.cut.Reads as cut
use Rattle.rows.proofs.events.reply.Reads as reply
use Rattle.rows.proofs.events.expected.Reads as expected
use Rattle.rows.proofs.events.remark.Reads as remark
use Rattle.rows.proofs.events.dump.Reads as dump
use Rattle.rows.proofs.events.wrong.Reads as wrong
use Rattle.rows.proofs.questions.lock_state.Reads as lock_state
use Rattle.rows.proofs.questions.lock_run.Reads as lock-run
use Rattle.rows.proofs.questions.run.Reads as run

pub plain_one : OneResult plain.Post
plain_one κ a x y r r' p q = one p q

pub numbered_one : OneResult numbered.Post
numbered_one κ a x y r r' p q = one p q

pub headed_one : OneResult headed.Post
headed_one κ a x y r r' p q = one p q

pub below_one : OneResult below.Post
below_one κ a x y r r' p q = one p q

pub part_one : OneResult part.Post
part_one κ a x y r r' p q = one p q

pub sent_one : OneResult sent.Post
sent_one κ a x y r r' p q = one p q

pub fits_one : OneResult fits.Post
fits_one κ a x y r r' p q = one p q

pub ended_one : OneResult ended.Post
ended_one κ a x y r r' p q = one p q

pub cut_one : OneResult cut.Post
cut_one κ a x y r r' p q = one p q

pub reply_one : OneResult reply.Post
reply_one κ a x y r r' p q = one p q

pub expected_one : OneResult expected.Post
expected_one κ a x y r r' p q = one p q

pub remark_one : OneResult remark.Post
remark_one κ a x y r r' p q = one p q

pub dump_one : OneResult dump.Post
dump_one κ a x y r r' p q = one p q

pub wrong_one : OneResult wrong.Post
wrong_one κ a x y r r' p q = one p q

pub lock_state_one : OneResult lock_state.Post
lock_state_one κ a x y r r' p q = one p.0 q.0

pub lock_run_one : OneResult lock-run.Post
lock_run_one κ a x y r r' p q = one p q

pub run_one : OneResult run.Post
run_one κ a x y r r' p q = one p q
