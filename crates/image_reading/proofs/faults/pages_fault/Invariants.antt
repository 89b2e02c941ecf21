-- Nothing is wrong with the pages before. Assumes nothing.
use Rattle.std.proofs.Common.{◌≡◌, ℕ, ◌<◌, None}
use Rattle.image.specs.Faults.{page_fault}
use Rattle.image_reading.proofs.faults.pages_fault.Given as goal

abbrev pub invariant-loop-n : goal.invariant-loop-n
invariant-loop-n v = (k : ℕ) → k < v.n → page_fault v.l k ≡ None
