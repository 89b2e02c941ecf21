-- The parts that were lent are judged. Assumes nothing.
use mathlib.Core.Path.{sym}
use lib.Seq.{length-take-le}
use native.Mathlib.Omega.{arith}
use Rattle.happening.proofs.judged.Goals as goal

pub slice_bounds-came-end : goal.slice_bounds-came-end
slice_bounds-came-end c = sym (length-take-le _ _ (omega (arith, c.min-r.ensures)))

pub slice_bounds-came-end-2 : goal.slice_bounds-came-end-2
slice_bounds-came-end-2 c = sym (length-take-le _ _ (omega (arith, c.min-m.ensures)))

pub slice_bounds-awaited-end : goal.slice_bounds-awaited-end
slice_bounds-awaited-end c = sym (length-take-le _ _ (omega (arith, c.min-x.ensures)))

pub slice_bounds-awaited-end-2 : goal.slice_bounds-awaited-end-2
slice_bounds-awaited-end-2 c = sym (length-take-le _ _ (omega (arith, c.min-k.ensures)))

pub returns : goal.returns
returns c = rw (← c.wanted.ensures, ← c.marks_wanted.ensures, ← c.min-r.ensures, ← c.min-m.ensures, ← c.min-x.ensures, ← c.min-k.ensures, ← c.expectation-expectation.ensures) c.judge.ensures
