-- What is there is a whole number of turns, or all of it; a round copies it behind itself. Assumes nothing.
use Prim.Native.Nat.{ℕ, ◌≤◌, ◌<◌, ◌-◌, ◌%◌}
use mathlib.Core.Path.{◌≡◌}
use mathlib.Core.Logic.{◌⊎◌}
use lib.ListN.{length, get_or}
use Rattle.memory.proofs.repeat.Given as goal

abbrev pub invariant-loop-done : goal.invariant-loop-done
invariant-loop-done l = record { some : 0 < l.n; least : l.n ≤ l.done; most : l.done ≤ length l.initial.s; few : length l.initial.s ≤ 65536; size : length l.s ≡ length l.initial.s; whole : (l.done ≡ length l.initial.s) ⊎ (l.done % l.n ≡ 0); is : (i : ℕ) → i < l.done → get_or l.s i 0 ≡ get_or l.initial.s (i % l.n) 0 }

abbrev pub decreases-loop-done : goal.decreases-loop-done
decreases-loop-done l = length l.initial.s - l.done
