-- No second outcome: whatever meets the guarantee of a public function of this crate at the same input is the same result. Assumes nothing.
use Rattle.rules.proofs.Promises.{one}
use Rattle.rules.proofs.Outcomes.{OneResult}
use Rattle.numbering.proofs.kind_of.Reads as kind-of
use Rattle.numbering.proofs.number_of.Reads as number_of_lem
use Rattle.numbering.proofs.work_right.Reads as work-right
use Rattle.numbering.proofs.work_of.Reads as work-of
use Rattle.numbering.proofs.flags_number.Reads as flags-number
use Rattle.numbering.proofs.flags_of.Reads as flags_of
use Rattle.numbering.proofs.burst_byte.Reads as burst-byte
use Rattle.numbering.proofs.burst_length.Reads as burst-length
use Rattle.numbering.proofs.burst_of.Reads as burst-of
use Rattle.numbering.proofs.burst_right.Reads as burst-right

pub kind_of_one : OneResult kind-of.Post
kind_of_one κ a x y r r' p q = one p q

pub number_of_one : OneResult number_of_lem.Post
number_of_one κ a x y r r' p q = one p q

pub work_right_one : OneResult work-right.Post
work_right_one κ a x y r r' p q = one p q

pub work_of_one : OneResult work-of.Post
work_of_one κ a x y r r' p q = one p q

pub flags_number_one : OneResult flags-number.Post
flags_number_one κ a x y r r' p q = one p q

pub flags_of_one : OneResult flags_of.Post
flags_of_one κ a x y r r' p q = one p q

pub burst_byte_one : OneResult burst-byte.Post
burst_byte_one κ a x y r r' p q = one p q

pub burst_length_one : OneResult burst-length.Post
burst_length_one κ a x y r r' p q = one p q

pub burst_of_one : OneResult burst-of.Post
burst_of_one κ a x y r r' p q = one p q

pub burst_right_one : OneResult burst-right.Post
burst_right_one κ a x y r r' p q = one p q
