-- The chip's promise, with the parts lent. Assumes nothing.
use mathlib.Core.Path.{sym}
use lib.Seq.{length-take-le}
use Rattle.lending.proofs.Happenings.{completed}
use native.Mathlib.Omega.{arith}
use Rattle.lending.proofs.ended.Goals as goal

pub slice_bounds-completion-end-2 : goal.slice_bounds-completion-end-2
slice_bounds-completion-end-2 c = sym (length-take-le _ _ (omega (arith, c.min-a.ensures)))

pub slice_bounds-completion-end-4 : goal.slice_bounds-completion-end-4
slice_bounds-completion-end-4 c = sym (length-take-le _ _ (omega (arith, c.min-s.ensures)))

pub returns : goal.returns
returns c = completed c.args.b c.args.array.now c.args.security.now _ _ c.min-a.ensures c.min-s.ensures _ _ _ c.completion.auto.array c.completion.auto.security c.completion.ensures
