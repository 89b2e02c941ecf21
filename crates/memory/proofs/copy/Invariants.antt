-- A byte that the loop has reached is the source's, the others are still the old ones. Assumes nothing.
use Prim.Native.Nat.{ℕ, ◌+◌, ◌≤◌, ◌<◌}
use mathlib.Core.Path.{◌≡◌}
use lib.ListN.{length, get_or}
use Rattle.memory.proofs.copy.Given as goal

abbrev pub invariant-loop-i : goal.invariant-loop-i
invariant-loop-i l = record {
  fits : l.at + length l.part ≤ length l.src;
  copied : (k : ℕ) → k < l.i → get_or l.part k 0 ≡ get_or l.src (l.at + k) 0;
  left : (k : ℕ) → l.i ≤ k → get_or l.part k 0 ≡ get_or l.initial.part k 0;
}
