-- So many are found below i, and the first slot below which k are is none of those before. Assumes nothing.
use Prim.Native.Nat.{◌≤◌, ◌-◌}
use mathlib.Core.Path.{◌≡◌}
use lib.Dec.{leb}
use Rattle.stations.specs.Slots.{first_from}
use Rattle.slots.specs.Reads.{shown_of}
use Rattle.census.specs.Census.{found, count_below, cut_after}
use Rattle.census.proofs.cut_after.Given as goal

abbrev pub invariant-loop-i : goal.invariant-loop-i
invariant-loop-i l =
    (l.n ≤ l.i) × (l.n ≡ count_below (found (shown_of l.read)) l.i)
    × (cut_after (shown_of l.read) l.k ≡ first_from (λ j. leb l.k (count_below (found (shown_of l.read)) j)) l.i (2048 - l.i))
