-- So many bytes are compared. Assumes nothing.
use Rattle.std.proofs.Common.{◌≡◌, ◌≤◌}
use Rattle.raw_image.specs.Raw.{compared, count_in}
use Rattle.raw_image.proofs.compare.Given as goal

abbrev pub invariant-loop-i : goal.invariant-loop-i
invariant-loop-i l = record { few : count_in l.d ≤ l.i; is : l.d ≡ compared l.i l.file l.array }
