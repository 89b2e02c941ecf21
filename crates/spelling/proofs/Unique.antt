-- No second outcome: whatever meets the guarantee of a public function of this crate at the same input is the same result. Assumes nothing.
use Rattle.rules.proofs.Promises.{one}
use Rattle.rules.proofs.Outcomes.{OneResult}
use Rattle.spelling.proofs.one_more.Reads as one_more
use Rattle.spelling.proofs.is_blank.Reads as is_blank
use Rattle.spelling.proofs.ends_line.Reads as ends-line
use Rattle.spelling.proofs.ends_words.Reads as ends_words
use Rattle.spelling.proofs.key_after.Reads as key-after
use Rattle.spelling.proofs.none.Reads as none
use Rattle.spelling.proofs.longer.Reads as longer
use Rattle.spelling.proofs.sign.Reads as sign
use Rattle.spelling.proofs.byte_of.Reads as byte_of

pub one_more_one : OneResult one_more.Post
one_more_one κ a x y r r' p q = one p q

pub is_blank_one : OneResult is_blank.Post
is_blank_one κ a x y r r' p q = one p q

pub ends_line_one : OneResult ends-line.Post
ends_line_one κ a x y r r' p q = one p q

pub ends_words_one : OneResult ends_words.Post
ends_words_one κ a x y r r' p q = one p q

pub key_after_one : OneResult key-after.Post
key_after_one κ a x y r r' p q = one p q

pub none_one : OneResult none.Post
none_one κ a x y r r' p q = one p q

pub longer_one : OneResult longer.Post
longer_one κ a x y r r' p q = one p q

pub sign_one : OneResult sign.Post
sign_one κ a x y r r' p q = one p q

pub byte_of_one : OneResult byte_of.Post
byte_of_one κ a x y r r' p q = one p q
