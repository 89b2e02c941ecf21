-- Every place is reached. Assumes nothing.
use native.Mathlib.Omega.{arith}
use lib.ListN.{length}
use Rattle.rules.proofs.Promises.{lent_written}
use Rattle.arranging.specs.Settings.{pattern_at}
use Rattle.arranging.proofs.set_pattern.Goals as goal

pub returns : goal.returns
returns c = lent_written c.loop-i.s (length c.args.s.now) pattern_at c.loop-i.auto.s (λ i below. c.loop-i.invariant i (omega arith))
