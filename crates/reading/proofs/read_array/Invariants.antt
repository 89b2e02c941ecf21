-- Each turn adds a piece whose places are alike: they are the next places of the read. Assumes nothing.
use Prim.Native.Nat.{◌-◌, ◌≤◌}
use lib.ListN.{length}
use Rattle.reading.specs.Upto.{Upto, cell_from}
use Rattle.reading.proofs.read_array.Given as goal

abbrev pub invariant-loop-i : goal.invariant-loop-i
invariant-loop-i l = record { low : l.i ≤ length l.initial.reply; bytes : Upto l.reply (length l.initial.reply) l.i (λ k. (cell_from l.p l.r l.array l.at k).byte); known : Upto l.marks (length l.initial.marks) l.i (λ k. (cell_from l.p l.r l.array l.at k).mark) }

abbrev pub decreases-loop-i : goal.decreases-loop-i
decreases-loop-i l = length l.initial.reply - l.i
