-- The shorter of the two is written whole. Assumes nothing.
use mathlib.Core.Path.{refl, ap, ◌∙◌}
use mathlib.Core.List.{List, ◌++◌}
use Prim.Native.Nat.{ℕ}
use lib.ListN.{drop}
use lib.Seq.{length-take-le}
use native.Mathlib.Omega.{arith}
use Rattle.meanings.proofs.Texts.{copied_all, over_end}
use Rattle.meanings.proofs.put_text.Goals as goal

pub returns : goal.returns
returns c = let a = c.args in
    let n = c.min-n.ensures in
    let l = c.loop-i in
    let size = l.invariant.size ∙ length-take-le c.min-n.result a.lent.now (omega arith) in (
      refl,
      ap (λ (xs : List ℕ). xs ++ drop c.min-n.result a.lent.now) (copied_all l.part a.text.now c.min-n.result size (omega arith) (λ k below. l.invariant.copied k (omega arith)))
          ∙ over_end a.text.now a.lent.now c.min-n.result (omega arith) (omega arith) (λ h. omega arith),
    )
