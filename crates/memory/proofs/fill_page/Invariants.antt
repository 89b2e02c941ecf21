-- What is still to come, put into the page so far, is the whole buffer. Assumes nothing.
use Prim.Native.Nat.{◌+◌}
use mathlib.Core.Path.{◌≡◌}
use lib.ListN.{length, drop}
use Rattle.rules.specs.Programs.{blank, fill}
use Rattle.memory.proofs.fill_page.Given as goal

abbrev pub invariant-loop-i : goal.invariant-loop-i
invariant-loop-i l = record { size : length l.page ≡ 256; is : fill l.page (l.at + l.i) (drop l.i l.data) ≡ fill blank l.at l.data }
