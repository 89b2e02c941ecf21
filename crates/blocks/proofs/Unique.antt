-- No second outcome: whatever meets the guarantee of a public function of this crate at the same input is the same result. Assumes nothing.
use Rattle.rules.proofs.Promises.{one}
use Rattle.rules.proofs.Outcomes.{OneResult}
use Rattle.blocks.proofs.block_at.Reads as block_at
use Rattle.blocks.proofs.block_of.Reads as Block-of
use Rattle.blocks.proofs.bit_at.Reads as bit_at
use Rattle.blocks.proofs.write_locked.Reads as write-locked
use Rattle.blocks.proofs.read_locked.Reads as read-locked
use Rattle.blocks.proofs.is_nothing.Reads as is-nothing
use Rattle.blocks.proofs.is_erase.Reads as is-erase
use Rattle.blocks.proofs.is_program.Reads as is-program
use Rattle.blocks.proofs.clean_m.Reads as clean-m
use Rattle.blocks.proofs.can_suspend.Reads as can-suspend
use Rattle.blocks.proofs.array_range.Reads as array-range
use Rattle.blocks.proofs.is_unlocked.Reads as is-unlocked
use Rattle.blocks.proofs.holds_place.Reads as holds-place

pub block_at_one : OneResult block_at.Post
block_at_one κ a x y r r' p q = one p q

pub block_of_one : OneResult Block-of.Post
block_of_one κ a x y r r' p q = one p q

pub bit_at_one : OneResult bit_at.Post
bit_at_one κ a x y r r' p q = one p q

pub write_locked_one : OneResult write-locked.Post
write_locked_one κ a x y r r' p q = one p q

pub read_locked_one : OneResult read-locked.Post
read_locked_one κ a x y r r' p q = one p q

pub is_nothing_one : OneResult is-nothing.Post
is_nothing_one κ a x y r r' p q = one p q

pub is_erase_one : OneResult is-erase.Post
is_erase_one κ a x y r r' p q = one p q

pub is_program_one : OneResult is-program.Post
is_program_one κ a x y r r' p q = one p q

pub clean_m_one : OneResult clean-m.Post
clean_m_one κ a x y r r' p q = one p q

pub can_suspend_one : OneResult can-suspend.Post
can_suspend_one κ a x y r r' p q = one p q

pub array_range_one : OneResult array-range.Post
array_range_one κ a x y r r' p q = one p q

pub is_unlocked_one : OneResult is-unlocked.Post
is_unlocked_one κ a x y r r' p q = one p q

pub holds_place_one : OneResult holds-place.Post
holds_place_one κ a x y r r' p q = one p q
