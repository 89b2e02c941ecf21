-- No second outcome: whatever meets the guarantee of a public function of this crate at the same input is the same result. Assumes nothing.
use Rattle.rules.proofs.Promises.{one}
use Rattle.rules.proofs.Outcomes.{OneResult}
use Rattle.byte_text.proofs.byte.Reads as byte
use Rattle.byte_text.proofs.count_within.Reads as count-within
use Rattle.byte_text.proofs.plain_bytes.Reads as plain-bytes
use Rattle.byte_text.proofs.known_byte.Reads as known-byte
use Rattle.byte_text.proofs.marked_bytes.Reads as marked-bytes
use Rattle.byte_text.proofs.printed_bytes.Reads as printed-bytes

pub byte_one : OneResult byte.Post
byte_one κ a x y r r' p q = one p q

pub count_within_one : OneResult count-within.Post
count_within_one κ a x y r r' p q = one p q

pub plain_bytes_one : OneResult plain-bytes.Post
plain_bytes_one κ a x y r r' p q = one p q

pub known_byte_one : OneResult known-byte.Post
known_byte_one κ a x y r r' p q = one p q

pub marked_bytes_one : OneResult marked-bytes.Post
marked_bytes_one κ a x y r r' p q = one p q

pub printed_bytes_one : OneResult printed-bytes.Post
printed_bytes_one κ a x y r r' p q = one p q
