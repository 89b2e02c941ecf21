-- A byte that the loop has reached is the text's. Assumes nothing.
use Prim.Native.Nat.{ℕ, ◌≤◌, ◌<◌}
use mathlib.Core.Path.{◌≡◌}
use lib.ListN.{length, get_or}
use Rattle.meanings.proofs.put_text.Given as goal

abbrev pub invariant-loop-i : goal.invariant-loop-i
invariant-loop-i l = record { size : length l.part ≡ length l.initial.part; fits : length l.part ≤ length l.text; copied : (k : ℕ) → k < l.i → get_or l.part k 0 ≡ get_or l.text k 0 }
