-- One byte of each is stored; else both are filled. Assumes nothing.
use mathlib.Core.Path.{◌≡◌}
use mathlib.Core.Bool.{true, ◌&&◌}
use mathlib.Core.List.{List}
use Prim.Native.Nat.{ℕ}
use lib.Dec.{eqb}
use lib.ListN.{length}
use borrow.Author.Tests.{eqb-true}
use Rattle.rules.proofs.Bools.{and_split}
use Rattle.replying.proofs.Shows.{stored_written, filled_written}
use Rattle.replying.proofs.fill_both.Goals as goal

one_each : (l m : List ℕ) → (eqb (length l) 1 && eqb (length m) 1) ≡ true → (length l ≡ 1) × (length m ≡ 1)
one_each l m e =
    let h = and_split (eqb (length l) 1) (eqb (length m) 1) e in
    (eqb-true (length l) 1 h.0, eqb-true (length m) 1 h.1)

pub returns-then-reply-marks : goal.returns-then-reply-marks
returns-then-reply-marks c = let a = c.args in
    let one = one_each a.reply.now a.marks.now c.if-reply-marks.true in
    record { bytes = stored_written a.reply.now a.byte one.0; known = stored_written a.marks.now a.mark one.1 }

pub returns-else-reply-marks : goal.returns-else-reply-marks
returns-else-reply-marks c = record { bytes = filled_written _ _ _ (c.fill.ensures.after (λ y h. h)); known = filled_written _ _ _ (c.fill-else-reply-marks.ensures.after (λ y h. h)) }
