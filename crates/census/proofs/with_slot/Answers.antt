-- Each count is that of one slot more. Assumes nothing.
use native.Mathlib.Omega.{arith}
use Rattle.census.proofs.Numbers.{at_most, small, counts_next}
use Rattle.census.proofs.with_slot.Goals as goal

pub overflow_add-result : goal.overflow_add-result
overflow_add-result c = let m = at_most _ _ _ c.requires.1 in omega (arith, small _ c.from.ensures)

pub overflow_add-result-2 : goal.overflow_add-result-2
overflow_add-result-2 c = let m = at_most _ _ _ c.requires.1 in omega (arith, small _ c.from-2.ensures)

pub overflow_add-result-3 : goal.overflow_add-result-3
overflow_add-result-3 c = let m = at_most _ _ _ c.requires.1 in omega (arith, small _ c.from-3.ensures)

pub overflow_add-result-4 : goal.overflow_add-result-4
overflow_add-result-4 c = let m = at_most _ _ _ c.requires.1 in omega (arith, small _ c.from-4.ensures)

pub returns : goal.returns
returns c = counts_next _ _ _ c.requires.1 c.is_empty-empty.ensures c.is_live-live.ensures c.is_passed_over-passed.ensures c.from.ensures c.from-2.ensures c.from-3.ensures c.from-4.ensures
