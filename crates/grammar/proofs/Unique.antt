-- No second outcome: whatever meets the guarantee of a public function of this crate at the same input is the same result. Assumes nothing.
use Rattle.rules.proofs.Promises.{one}
use Rattle.rules.proofs.Outcomes.{OneResult}
use Rattle.grammar.proofs.table.follows.Reads as follows
use Rattle.grammar.proofs.table.can_end.Reads as can-end
use Rattle.grammar.proofs.table.heard.Reads as heard
use Rattle.grammar.proofs.table.takes_name.Reads as takes-name
use Rattle.grammar.proofs.table.verb_of.Reads as verb-of

pub follows_one : OneResult follows.Post
follows_one κ a x y r r' p q = one p q

pub can_end_one : OneResult can-end.Post
can_end_one κ a x y r r' p q = one p q

pub heard_one : OneResult heard.Post
heard_one κ a x y r r' p q = one p q

pub takes_name_one : OneResult takes-name.Post
takes_name_one κ a x y r r' p q = one p q

pub verb_of_one : OneResult verb-of.Post
verb_of_one κ a x y r r' p q = one p q
