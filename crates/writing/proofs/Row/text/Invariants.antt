-- After i turns the first i bytes of the text are put. Assumes nothing.
use Rattle.std.proofs.Common.{◌≡◌, take}
use Rattle.writing.specs.Rows.{put}
use Rattle.writing.proofs.Row.text.Given as goal

abbrev pub invariant-loop-b : goal.invariant-loop-b
invariant-loop-b l = l.q ≡ put l.initial.q (take l.b-index l.t)
