-- No second outcome: whatever meets the guarantee of a public function of this crate at the same input is the same result. Assumes nothing.
use Rattle.rules.proofs.Promises.{one}
use Rattle.rules.proofs.Outcomes.{OneResult}
use Rattle.named.proofs.changes_locks.Reads as changes-locks
use Rattle.named.proofs.erases.Reads as erases
use Rattle.named.proofs.in_a_block.Reads as in_a_block
use Rattle.named.proofs.is.Reads as is
use Rattle.named.proofs.must_wait.Reads as must-wait
use Rattle.named.proofs.needs_ioc.Reads as needs-ioc
use Rattle.named.proofs.needs_wel.Reads as needs-wel
use Rattle.named.proofs.passes_busy.Reads as passes-busy
use Rattle.named.proofs.programs.Reads as programs
use Rattle.named.proofs.to_security.Reads as to-security

pub changes_locks_one : OneResult changes-locks.Post
changes_locks_one κ a x y r r' p q = one p q

pub erases_one : OneResult erases.Post
erases_one κ a x y r r' p q = one p q

pub in_a_block_one : OneResult in_a_block.Post
in_a_block_one κ a x y r r' p q = one p q

pub is_one : OneResult is.Post
is_one κ a x y r r' p q = one p q

pub must_wait_one : OneResult must-wait.Post
must_wait_one κ a x y r r' p q = one p q

pub needs_ioc_one : OneResult needs-ioc.Post
needs_ioc_one κ a x y r r' p q = one p q

pub needs_wel_one : OneResult needs-wel.Post
needs_wel_one κ a x y r r' p q = one p q

pub passes_busy_one : OneResult passes-busy.Post
passes_busy_one κ a x y r r' p q = one p q

pub programs_one : OneResult programs.Post
programs_one κ a x y r r' p q = one p q

pub to_security_one : OneResult to-security.Post
to_security_one κ a x y r r' p q = one p q
