use Rattle.hinting.proofs.Hinted.{lowered_next, lowered_end}
use mathlib.Core.Path.{◌∙◌}
use Rattle.hinting.proofs.in_lower.Goals as goal

pub loop-b-preserved : goal.loop-b-preserved
loop-b-preserved c = rw c.longer-word.ensures (lowered_next c.loop-b.word c.args.bytes.now c.loop-b.b-index _ c.loop-b-test.true c.to_ascii_lowercase.ensures.value) ∙ c.loop-b.invariant

pub returns : goal.returns
returns c = lowered_end _ _ _ c.loop-b-test.false ∙ c.loop-b.invariant
