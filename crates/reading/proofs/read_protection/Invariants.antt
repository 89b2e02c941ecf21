-- The bytes that the loop has reached are the reply's. Assumes nothing.
use Prim.Native.Nat.{ℕ, ◌-◌, ◌*◌, ◌/◌, ◌%◌, ◌^◌, ◌<◌}
use mathlib.Core.Path.{◌≡◌}
use lib.Dec.{ltb}
use lib.ListN.{get_or}
use Rattle.rules.specs.Words.{pick}
use Rattle.reading.proofs.read_protection.Given as goal

abbrev pub invariant-loop-i : goal.invariant-loop-i
invariant-loop-i l = (k : ℕ) → k < l.i → get_or l.reply k 0 ≡ pick (ltb k 6) (l.p / 2 ^ (8 * (5 - k)) % 256) 0
