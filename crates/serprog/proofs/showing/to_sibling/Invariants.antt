-- A byte that the loop has not reached is still the old one. Assumes nothing.
use Prim.Native.Nat.{ℕ, ◌<◌, ◌≤◌}
use mathlib.Core.Path.{◌≡◌}
use lib.ListN.{get_or}
use Rattle.serprog.specs.Showing.{sibling}
use Rattle.serprog.proofs.showing.to_sibling.Given as goal

abbrev pub invariant-loop-i : goal.invariant-loop-i
invariant-loop-i l =
    ((k : ℕ) → k < l.i → get_or l.reply k 0 ≡ sibling k (get_or l.initial.reply k 0)) × ((k : ℕ) → l.i ≤ k → get_or l.reply k 0 ≡ get_or l.initial.reply k 0)
