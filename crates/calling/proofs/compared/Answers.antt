-- What is compared is what was found. Assumes nothing.
use mathlib.Core.Path.{sym}
use lib.Seq.{length-take-le}
use Rattle.calling.proofs.Ends.{found_part, sure_part}
use native.Mathlib.Omega.{arith}
use Rattle.calling.proofs.compared.Goals as goal

pub slice_bounds-came-end : goal.slice_bounds-came-end
slice_bounds-came-end c = sym (length-take-le _ _ (omega (arith, c.min-n.ensures)))

pub slice_bounds-came-end-2 : goal.slice_bounds-came-end-2
slice_bounds-came-end-2 c = sym (length-take-le _ _ (omega (arith, c.min-m.ensures)))

pub returns : goal.returns
returns c = let a = c.args in
    let x = found_part a.number a.bytes.now c.found_count.ensures c.min-n.ensures in
    let y = sure_part a.number a.sure.now c.requires.1 c.found_count-2.ensures c.min-m.ensures in
    rw (← x, ← y, ← c.expectation-expectation.ensures) c.judge.ensures
