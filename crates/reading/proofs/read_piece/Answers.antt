-- The places of a page are alike. Assumes nothing.
use native.Mathlib.Omega.{arith}
use Rattle.reading.proofs.Upto.{alike_in_page}
use Rattle.reading.proofs.read_piece.Goals as goal

pub shape_of-reply : goal.shape_of-reply
shape_of-reply c = c.read_alike.ensures.bytes.size

pub shape_of-marks : goal.shape_of-marks
shape_of-marks c = c.read_alike.ensures.known.size

pub returns : goal.returns
returns c = c.read_alike.ensures

pub read_alike-requires : goal.read_alike-requires
read_alike-requires c =
    let s = c in
    let fits = s.requires.1.1.1.0 in
    (s.requires.0.inside, (s.requires.1.0, (s.requires.1.1.0, (omega arith, (alike_in_page s.args.r s.args.a s.args.n s.requires.0 fits, s.requires.1.1.1.1)))))
