-- No second outcome: whatever meets the guarantee of a public function of this crate at the same input is the same result and the same lent memory.
-- Assumes nothing.
use Prim.Native.Nat.{ℕ}
use mathlib.Core.List.{List}
use Rattle.rules.specs.declared.After.{After}
use Rattle.rules.proofs.Promises.{one, lent_one, answer_one}
use Rattle.rules.proofs.Outcomes.{OneOutcome, OneResult}
use Rattle.lending.proofs.wanted.Reads as wanted
use Rattle.lending.proofs.marks_given.Reads as marks-given
use Rattle.lending.proofs.marks_wanted.Reads as marks-wanted
use Rattle.lending.proofs.tear_of.Reads as tear-of
use Rattle.lending.proofs.happened.Reads as happened

pub wanted_one : OneResult wanted.Post
wanted_one κ a x y r r' p q = one p q

pub marks_given_one : OneResult marks-given.Post
marks_given_one κ a x y r r' p q = one p q

pub marks_wanted_one : OneResult marks-wanted.Post
marks_wanted_one κ a x y r r' p q = one p q

pub tear_of_one : OneResult tear-of.Post
tear_of_one κ a x y r r' p q = one p q

-- the answer and the chip, and the array, the Security ID, the reply and the marks at exit
pub happened_one : OneOutcome {S = After × List ℕ × List ℕ × List ℕ × List ℕ} happened.Post (λ r x. (r, x.1.1.1.0.now, x.1.1.1.1.0.now, x.1.1.1.1.1.1.0.now, x.1.1.1.1.1.1.1.0.now))
happened_one κ a x y r r' p q =
    let answer = answer_one r.answer r'.answer (one p.ended.number_is q.ended.number_is) in
    let chip = one p.ended.chip_is q.ended.chip_is in
    let array = lent_one x.1.1.1.0.now y.1.1.1.0.now (one p.ended.array_is q.ended.array_is) in
    let security = lent_one x.1.1.1.1.0.now y.1.1.1.1.0.now (one p.ended.security_is q.ended.security_is) in
    let reply = lent_one x.1.1.1.1.1.1.0.now y.1.1.1.1.1.1.0.now (one p.reply_is q.reply_is) in
    let marks = lent_one x.1.1.1.1.1.1.1.0.now y.1.1.1.1.1.1.1.0.now (one p.marks_are q.marks_are) in
    λ i. (record { answer = answer i; chip = chip i }, array i, security i, reply i, marks i)
