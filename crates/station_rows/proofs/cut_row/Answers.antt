-- What is lent, cut. Assumes nothing.
use mathlib.Core.Path.{◌≡◌}
use native.Mathlib.Omega.{arith}
use lib.ListN.{length}
use Rattle.station_rows.proofs.cut_row.Goals as goal

pub returns : goal.returns
returns c =
    let r : length c.args.reply.now ≡ 65537 = omega arith in
    let m : length c.args.marks.now ≡ 65537 = omega arith in
    rw (r, m, ← c.line_of-l.ensures, ← c.min-x.ensures, ← c.min-y.ensures) c.part_row.ensures
