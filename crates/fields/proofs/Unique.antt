-- No second outcome: whatever meets the guarantee of a public function of this crate at the same input is the same result. Assumes nothing.
use Rattle.rules.proofs.Promises.{one}
use Rattle.rules.proofs.Outcomes.{OneResult}
use Rattle.fields.proofs.record_of.Reads as record_of
use Rattle.fields.proofs.same_rest.Reads as same_rest
use Rattle.fields.proofs.same_record.Reads as same_record

pub record_of_one : OneResult record_of.Post
record_of_one κ a x y r r' p q = one p q

pub same_rest_one : OneResult same_rest.Post
same_rest_one κ a x y r r' p q = one p q

pub same_record_one : OneResult same_record.Post
same_record_one κ a x y r r' p q = one p q
