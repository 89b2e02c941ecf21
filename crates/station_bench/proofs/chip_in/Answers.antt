-- The page is the first 256 bytes, and the rest stands behind it. Assumes nothing.
use mathlib.Core.Path.{sym}
use native.Mathlib.Omega.{arith}
use lib.Seq.{length-take-le}
use Rattle.rules.specs.Fields.{chip_of}
use Rattle.record_code.specs.Layout.{chip_in}
use Rattle.station_bench.proofs.chip_in.Goals as goal

pub slice_bounds-copy_from_slice-end-2 : goal.slice_bounds-copy_from_slice-end-2
slice_bounds-copy_from_slice-end-2 c = sym (length-take-le 256 c.args.bytes.now (omega (arith, c.requires)))

pub returns : goal.returns
unfolding chip_in
returns c = λ i. chip_of (c.copy_from_slice.ensures.after i) (c.rest_in-rest.ensures i)
