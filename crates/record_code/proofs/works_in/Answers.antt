-- Each work is what its reader gives. Assumes nothing.
use native.Mathlib.Nat.{add-zero}
use Rattle.record_code.specs.Layout.{rest_in}
use Rattle.record_code.proofs.works_in.Goals as goal

pub returns : goal.returns
unfolding rest_in
returns c =
    let w = c in
    rw (c.work_of-suspended.ensures, c.get_word-2.ensures, w.work_of-running.ensures, w.get_word.ensures) (simp add-zero)
