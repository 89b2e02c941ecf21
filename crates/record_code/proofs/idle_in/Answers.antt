-- Each part is what its reader gives. Assumes nothing.
use native.Mathlib.Nat.{add-zero}
use Rattle.record_code.specs.Layout.{rest_in}
use Rattle.record_code.proofs.idle_in.Goals as goal

pub returns : goal.returns
unfolding rest_in
returns c = let f = c in
    let p = f in
    rw (c.burst_of-burst.ensures, f.flags_of-flags.ensures, p.get_word-permanent.ensures, p.get_word-protection.ensures) (simp add-zero)
