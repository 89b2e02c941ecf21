-- By what the line asks for. Assumes nothing.
use mathlib.Core.Path.{refl, sym}
use lib.Seq.{length-take-le}
use native.Mathlib.Omega.{arith}
use Rattle.calling.proofs.carry.Goals as goal

pub slice_bounds-call_of-end : goal.slice_bounds-call_of-end
slice_bounds-call_of-end c = sym (length-take-le _ _ (omega (arith, c.min-n.ensures)))

pub slice_bounds-call_of-end-in-Some : goal.slice_bounds-call_of-end-in-Some
slice_bounds-call_of-end-in-Some c = sym (length-take-le _ _ (omega (arith, c.min-x.ensures)))

pub slice_bounds-call_of-end-in-Some-2 : goal.slice_bounds-call_of-end-in-Some-2
slice_bounds-call_of-end-in-Some-2 c = sym (length-take-le _ _ (omega (arith, c.min-k.ensures)))

pub returns-in-None : goal.returns-in-None
returns-in-None c = rw (← c.asked.ensures, c.in-None.is) (c.nothing.ensures, record { array_is = refl; security_is = refl; reply_is = refl; marks_are = refl })
