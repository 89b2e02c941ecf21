-- Each flag is its bit. Assumes nothing.
use native.Mathlib.Nat.{div-one}
use Rattle.rules.specs.Words.{bit}
use Rattle.numbering.proofs.flags_of.Goals as goal

pub returns : goal.returns
unfolding bit
returns c = rw div-one
