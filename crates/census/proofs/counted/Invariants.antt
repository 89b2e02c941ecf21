-- The counts of the first i slots. Assumes nothing.
use mathlib.Core.Path.{◌≡◌}
use Rattle.slots.specs.Reads.{shown_of}
use Rattle.census.specs.Census.{counts_below}
use Rattle.census.proofs.counted.Given as goal

abbrev pub invariant-loop-i : goal.invariant-loop-i
invariant-loop-i l = l.c ≡ counts_below (shown_of l.read) l.i
