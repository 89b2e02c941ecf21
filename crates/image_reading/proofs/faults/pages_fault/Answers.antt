-- The first that is wrong, or none of them. Assumes nothing.
use Rattle.std.proofs.Common.{sym, arith, None, Some}
use Rattle.image.specs.Faults.{page_fault}
use Rattle.image.proofs.Faults.{found_in_row}
use Rattle.image_reading.proofs.faults.pages_fault.Goals as goal

pub returns-in-Some : goal.returns-in-Some
returns-in-Some c = found_in_row (page_fault c.args.l.now) 0 8192 (Some _) (c.loop-n.n, omega arith, omega arith, sym c.in-Some.ensures, λ j a b. c.loop-n.invariant j b)

pub returns : goal.returns
returns c = found_in_row (page_fault c.args.l.now) 0 8192 None (λ i a b. c.loop-n.invariant i (omega arith))
