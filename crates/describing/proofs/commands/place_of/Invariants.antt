-- Before i the byte is none of the table's. Assumes nothing.
use Rattle.std.proofs.Common.{◌≡◌, ◌+◌, drop}
use Rattle.describing.specs.Commands.{place_of}
use Rattle.describing.proofs.commands.place_of.Given as goal

abbrev pub invariant-loop-i : goal.invariant-loop-i
invariant-loop-i l = place_of l.table l.op ≡ l.i + place_of (drop l.i l.table) l.op
