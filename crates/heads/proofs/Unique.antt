-- No second outcome: whatever meets the guarantee of a public function of this crate at the same input is the same result. Assumes nothing.
use Rattle.rules.proofs.Promises.{one}
use Rattle.rules.proofs.Outcomes.{OneResult}
use Rattle.heads.proofs.first.Reads as first
use Rattle.heads.proofs.seconds.second.Reads as second
use Rattle.heads.proofs.statuses.status_bit.Reads as status-bit
use Rattle.heads.proofs.statuses.configuration.Reads as configuration
use Rattle.heads.proofs.statuses.bit.Reads as bit
use Rattle.heads.proofs.statuses.protocol.Reads as protocol

pub first_one : OneResult first.Post
first_one κ a x y r r' p q = one p q

pub second_one : OneResult second.Post
second_one κ a x y r r' p q = one p q

pub status_bit_one : OneResult status-bit.Post
status_bit_one κ a x y r r' p q = one p q

pub configuration_one : OneResult configuration.Post
configuration_one κ a x y r r' p q = one p q

pub bit_one : OneResult bit.Post
bit_one κ a x y r r' p q = one p q

pub protocol_one : OneResult protocol.Post
protocol_one κ a x y r r' p q = one p q
