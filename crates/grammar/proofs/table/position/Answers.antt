use Rattle.grammar.proofs.Lookups.{letter, key_met, key_passed, keys_end}
use mathlib.Core.Path.{◌∙◌}
use Rattle.grammar.proofs.table.position.Goals as goal
use Rattle.grammar.proofs.table.position.Goals.{then-b-ne32, else-b-ne32+else-k-key}

pub loop-b-preserved : goal.loop-b-preserved
loop-b-preserved c = let l = c.loop-b in let a = c.args in
    elim c.if-b-ne32.branch [
      | then-b-ne32 w ↦ rw (w.n-is, w.k-is, w.key_after-k.ensures) (letter a.text.now a.key l.n l.k l.b-index c.loop-b-test.true w.if-b-ne32.true ∙ l.invariant)
      | else-b-ne32+else-k-key w ↦ rw (w.n-is, w.k-is, w.saturating_add-n.ensures) (key_passed a.text.now a.key l.n l.k l.b-index c.loop-b-test.true w.if-b-ne32.false w.if-k-key.false ∙ l.invariant)
    ]

pub returns-then-k-key : goal.returns-then-k-key
returns-then-k-key c = key_met _ _ _ _ _ c.loop-b-test.true c.if-b-ne32.false c.if-k-key.true ∙ c.loop-b.invariant

pub returns : goal.returns
returns c = keys_end c.args.text.now c.args.key c.loop-b.n c.loop-b.k c.loop-b.b-index c.loop-b-test.false ∙ c.loop-b.invariant
