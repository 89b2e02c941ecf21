-- Another length is no code; of the record's length, each test is the layout's. Assumes nothing.
use native.Mathlib.Nat.{add-zero}
use borrow.Author.Tests.{eq-eqb, ne_eqb}
use Rattle.record_code.specs.Layout.{is_code}
use Rattle.record_code.proofs.is_code.Goals as goal

pub returns-then-coded-ne320 : goal.returns-then-coded-ne320
unfolding is_code
returns-then-coded-ne320 c = rw (ne_eqb _ 320 c.if-coded-ne320.true)

pub returns : goal.returns
unfolding is_code
returns c = let w₂ = c in
    let w₁ = w₂ in
    rw (
      eq-eqb _ 320 w₁.if-coded-ne320.false,
      w₁.work_right-running.ensures,
      w₁.get_word.ensures,
      w₂.work_right-suspended.ensures,
      w₂.get_word-2.ensures,
      c.burst_right.ensures,
      c.nothing_reserved.ensures,
    ) (simp add-zero)
