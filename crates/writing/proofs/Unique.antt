-- No second outcome: whatever meets the guarantee of a public function of this crate at the same input is the same result. Assumes nothing.
use Rattle.rules.proofs.Promises.{one}
use Rattle.rules.proofs.Outcomes.{OneResult}
use Rattle.writing.proofs.empty.Reads as empty
use Rattle.writing.proofs.Row.add.Reads as add
use Rattle.writing.proofs.Row.text.Reads as text
use Rattle.writing.proofs.Row.pad.Reads as pad
use Rattle.writing.proofs.Row.number.Reads as number
use Rattle.writing.proofs.Row.hexadecimal.Reads as hexadecimal
use Rattle.writing.proofs.Row.size.Reads as size

pub empty_one : OneResult empty.Post
empty_one κ a x y r r' p q = one p q

pub add_one : OneResult add.Post
add_one κ a x y r r' p q = one p q

pub text_one : OneResult text.Post
text_one κ a x y r r' p q = one p q

pub pad_one : OneResult pad.Post
pad_one κ a x y r r' p q = one p q

pub number_one : OneResult number.Post
number_one κ a x y r r' p q = one p q

pub hexadecimal_one : OneResult hexadecimal.Post
hexadecimal_one κ a x y r r' p q = one p q

pub size_one : OneResult size.Post
size_one κ a x y r r' p q = one p q
