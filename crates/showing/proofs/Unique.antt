-- No second outcome: whatever meets the guarantee of a public function of this crate at the same input is the same result. Assumes nothing.
use Rattle.rules.proofs.Promises.{one}
use Rattle.rules.proofs.Outcomes.{OneResult}
use Rattle.showing.proofs.dumped.Reads as dumped
use Rattle.showing.proofs.reply_shown.Reads as reply-shown
use Rattle.showing.proofs.dump_shown.Reads as dump-shown
use Rattle.showing.proofs.count.Reads as count

pub dumped_one : OneResult dumped.Post
dumped_one κ a x y r r' p q = one p q

pub reply_shown_one : OneResult reply-shown.Post
reply_shown_one κ a x y r r' p q = one p q

pub dump_shown_one : OneResult dump-shown.Post
dump_shown_one κ a x y r r' p q = one p q

pub count_one : OneResult count.Post
count_one κ a x y r r' p q = one p q
