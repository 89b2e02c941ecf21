-- After i turns i blanks are put. Assumes nothing.
use Rattle.std.proofs.Common.{◌≡◌}
use Rattle.writing.specs.Rows.{put, blanks}
use Rattle.writing.proofs.Row.pad.Given as goal

abbrev pub invariant-loop : goal.invariant-loop
invariant-loop l = l.q ≡ put l.initial.q (blanks l.counter)
