-- Filled where the record and the lengths are right, untouched where they are not. Assumes nothing.
use mathlib.Core.Path.{refl}
use Rattle.framing.proofs.turned_away.Goals as goal

pub returns-then-right : goal.returns-then-right
returns-then-right c = rw c.if-right.true (record { turn = c.refused.ensures; bytes = c.fill_both.ensures.bytes; known = c.fill_both.ensures.known })

pub returns : goal.returns
returns c = rw c.if-right.false (record { turn = c.refused-2.ensures; bytes = refl; known = refl })
