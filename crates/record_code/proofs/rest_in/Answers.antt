-- Each part is what its reader gives. Assumes nothing.
use native.Mathlib.Nat.{add-zero}
use Rattle.record_code.specs.Layout.{rest_in}
use Rattle.record_code.proofs.rest_in.Goals as goal

pub returns : goal.returns
unfolding rest_in
returns c = let f = c in
    let w₂ = f in
    let w₁ = w₂ in
    let p₂ = w₁ in
    rw (
      c.burst_of-burst.ensures,
      f.flags_of-flags.ensures,
      w₂.work_of-suspended.ensures,
      w₂.get_word-2.ensures,
      w₁.work_of-running.ensures,
      w₁.get_word.ensures,
      p₂.get_word-permanent.ensures,
      p₂.get_word-protection.ensures,
    ) (simp add-zero)
