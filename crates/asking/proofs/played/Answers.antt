-- By the question, with the parts that are compared. Assumes nothing.
use mathlib.Core.Path.{sym}
use lib.Seq.{length-take-le}
use borrow.Author.Tests.{eq-eqb, ne_eqb}
use native.Mathlib.Omega.{arith}
use Rattle.asking.proofs.played.Goals as goal

pub slice_bounds-status-end : goal.slice_bounds-status-end
slice_bounds-status-end c = sym (length-take-le _ _ (omega (arith, c.min-x.ensures)))

pub slice_bounds-status-end-in-Status : goal.slice_bounds-status-end-in-Status
slice_bounds-status-end-in-Status c = sym (length-take-le _ _ (omega (arith, c.min-k.ensures)))

pub slice_bounds-compared_if-end : goal.slice_bounds-compared_if-end
slice_bounds-compared_if-end c = sym (length-take-le _ _ (omega (arith, c.min-a.ensures)))

pub slice_bounds-compared_if-end-then-slots-eq0 : goal.slice_bounds-compared_if-end-then-slots-eq0
slice_bounds-compared_if-end-then-slots-eq0 c = sym (length-take-le _ _ (omega (arith, c.min-x.ensures)))

pub slice_bounds-compared_if-end-then-slots-eq0-2 : goal.slice_bounds-compared_if-end-then-slots-eq0-2
slice_bounds-compared_if-end-then-slots-eq0-2 c = sym (length-take-le _ _ (omega (arith, c.min-k.ensures)))

pub slice_bounds-compared_if-end-else-slots-eq0 : goal.slice_bounds-compared_if-end-else-slots-eq0
slice_bounds-compared_if-end-else-slots-eq0 c = sym (length-take-le _ _ (omega (arith, c.min-s.ensures)))

pub slice_bounds-compared_if-end-else-slots-eq0-2 : goal.slice_bounds-compared_if-end-else-slots-eq0-2
slice_bounds-compared_if-end-else-slots-eq0-2 c = sym (length-take-le _ _ (omega (arith, c.min-x.ensures)))

pub slice_bounds-compared_if-end-else-slots-eq0-3 : goal.slice_bounds-compared_if-end-else-slots-eq0-3
slice_bounds-compared_if-end-else-slots-eq0-3 c = sym (length-take-le _ _ (omega (arith, c.min-k.ensures)))

pub returns-in-Status : goal.returns-in-Status
returns-in-Status c = rw (c.in-Status.is, ← c.min-x.ensures, ← c.min-k.ensures) c.status.ensures

pub returns-then-slots-eq0 : goal.returns-then-slots-eq0
returns-then-slots-eq0 c = rw (c.in-Dump.is, eq-eqb _ _ c.if-slots-eq0.true, ← c.min-a.ensures, ← c.min-x.ensures, ← c.min-k.ensures) c.compared_if.ensures

pub returns-else-slots-eq0 : goal.returns-else-slots-eq0
returns-else-slots-eq0 c = rw (c.in-Dump.is, ne_eqb _ _ c.if-slots-eq0.false, ← c.min-s.ensures, ← c.min-x.ensures, ← c.min-k.ensures) c.compared_if-else-slots-eq0.ensures

pub returns-in-Is : goal.returns-in-Is
returns-in-Is c = rw c.in-Is.is c.is.ensures
