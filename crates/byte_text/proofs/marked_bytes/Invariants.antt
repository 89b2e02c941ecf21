-- After i bytes those stand there with their marks. Assumes nothing.
use Rattle.std.proofs.Common.{◌≡◌, length}
use Rattle.writing.specs.Rows.{put}
use Rattle.byte_text.specs.Bytes.{marked}
use Rattle.byte_text.proofs.marked_bytes.Given as goal

abbrev pub invariant-loop-b : goal.invariant-loop-b
invariant-loop-b v = v.q ≡ put v.initial.q (marked v.l v.marks v.from (length v.yielded))
