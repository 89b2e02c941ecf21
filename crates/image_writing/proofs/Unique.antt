-- No second outcome: whatever meets the guarantee of a public function of this crate at the same input is the same answer and the same lent bytes.
-- Assumes nothing.
use Rattle.rules.proofs.Promises.{one}
use Rattle.rules.proofs.Outcomes.{OneResult, OneList}
use Rattle.image.proofs.Trips.{write_one}
use Rattle.image_writing.proofs.put_file.Reads as put-file
use Rattle.image_writing.proofs.write.Reads as write

pub put_file_leaves_one : OneList put-file.Post (λ a. a.0.now)
put_file_leaves_one κ a x y r r' p q = one p q

pub write_gives_one : OneResult write.Post
write_gives_one κ a x y r r' p q = (write_one _ _ _ _ _ _ _ _ p q).0

pub write_leaves_one : OneList write.Post (λ a. a.1.1.1.0.now)
write_leaves_one κ a x y r r' p q = (write_one _ _ _ _ _ _ _ _ p q).1
