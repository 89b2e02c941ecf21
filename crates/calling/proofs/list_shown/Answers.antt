-- Of both as much as the list has. Assumes nothing.
use mathlib.Core.Path.{◌≡◌}
use native.Mathlib.Omega.{arith}
use lib.ListN.{length}
use Rattle.calling.proofs.list_shown.Goals as goal

pub returns : goal.returns
returns c =
    let r : length c.args.reply.now ≡ 65537 = omega arith in
    let m : length c.args.marks.now ≡ 65537 = omega arith in
    rw (r, m) c.account_shown.ensures
