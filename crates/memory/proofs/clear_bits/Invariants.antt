-- A byte that the loop has reached is cleared, the others are still the old ones. Assumes nothing.
use Prim.Native.Nat.{ℕ, ◌≤◌, ◌<◌}
use mathlib.Core.Path.{◌≡◌}
use lib.ListN.{length, get_or}
use lib.Bits.{bit_and}
use Rattle.memory.proofs.clear_bits.Given as goal

abbrev pub invariant-loop-i : goal.invariant-loop-i
invariant-loop-i l = record {
  small : length l.part ≤ length l.page;
  cleared : (k : ℕ) → k < l.i → get_or l.part k 0 ≡ bit_and (get_or l.initial.part k 0) (get_or l.page k 0);
  left : (k : ℕ) → l.i ≤ k → get_or l.part k 0 ≡ get_or l.initial.part k 0;
}
