-- The chip's promise, with the parts lent. Assumes nothing.
use mathlib.Core.Path.{sym}
use lib.Seq.{length-take-le}
use Rattle.lending.proofs.Happenings.{cut_off}
use native.Mathlib.Omega.{arith}
use Rattle.lending.proofs.cut.Goals as goal

pub slice_bounds-power_cut-end-2 : goal.slice_bounds-power_cut-end-2
slice_bounds-power_cut-end-2 c = sym (length-take-le _ _ (omega (arith, c.min-a.ensures)))

pub slice_bounds-power_cut-end-4 : goal.slice_bounds-power_cut-end-4
slice_bounds-power_cut-end-4 c = sym (length-take-le _ _ (omega (arith, c.min-s.ensures)))

pub returns : goal.returns
returns c = cut_off c.args.b c.args.array.now c.args.security.now _ _ c.min-a.ensures c.min-s.ensures c.args.tear _ _ _ c.power_cut.auto.array c.power_cut.auto.security c.power_cut.ensures
