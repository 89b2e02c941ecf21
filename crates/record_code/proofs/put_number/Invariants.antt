-- What is written so far, and the bytes of what is left of the number, are the whole number. Assumes nothing.
use Prim.Native.Nat.{◌-◌}
use mathlib.Core.Path.{◌≡◌}
use mathlib.Core.List.{◌++◌}
use lib.ListN.{length, take}
use Rattle.record_code.specs.Layout.{bytes}
use Rattle.record_code.proofs.put_number.Given as goal

abbrev pub invariant-loop-b : goal.invariant-loop-b
invariant-loop-b l = take l.b-index l.part ++ bytes (length l.initial.part - l.b-index) l.left ≡ bytes (length l.initial.part) l.x
