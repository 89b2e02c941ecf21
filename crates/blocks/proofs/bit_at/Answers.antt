-- A shift and a mask of one bit are the division and the remainder of the rule. Assumes nothing.
use mathlib.Core.Path.{ap}
use Prim.Native.Nat.{ℕ, ◌/◌, ◌^◌}
use lib.Dec.{eqb}
use lib.Bits.{and_mask}
use Rattle.rules.specs.Words.{bit}
use Rattle.blocks.proofs.bit_at.Goals as goal

pub returns : goal.returns
unfolding bit
returns c = ap (λ (x : ℕ). eqb x 1) (and_mask (c.args.p / 2 ^ c.args.n) 1)
