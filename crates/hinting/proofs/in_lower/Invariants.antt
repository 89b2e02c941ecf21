-- What is still to come, read from here, is the whole read from its start. Assumes nothing.
use Rattle.hinting.specs.Hints.{lowered}
use Rattle.spelling.specs.Words.{no_word}
use lib.ListN.{drop}
use mathlib.Core.Path.{◌≡◌}
use Rattle.hinting.proofs.in_lower.Given as goal

abbrev pub invariant-loop-b : goal.invariant-loop-b
invariant-loop-b l = lowered l.word (drop l.b-index l.bytes) ≡ lowered (no_word 0) l.bytes
