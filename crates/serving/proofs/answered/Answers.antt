-- The bytes of the answer are as many as it says. Assumes nothing.
use Prim.Native.Nat.{◌≤◌}
use mathlib.Core.Path.{◌≡◌}
use lib.ListN.{length}
use Rattle.serprog.proofs.Laws.{answer_fits}
use native.Mathlib.Omega.{arith}
use borrow.Author.Rules.{rules}
use Rattle.serving.proofs.answered.Goals as goal

pub shared_ref_as_front-copy_from_slice : goal.shared_ref_as_front-copy_from_slice
shared_ref_as_front-copy_from_slice c =
    let a = c.args.h in
    let fits : c.answer_to-a.result.count ≤ length c.answer_to-a.result.bytes = rw c.answer_to-a.ensures (answer_fits a.command a.given) in
    let few : length c.answer_to-a.result.bytes ≡ 33 = search rules in
    omega (arith, c.min-n.ensures)
