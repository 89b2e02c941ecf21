-- Up to the range's start, to its end, or past it. Assumes nothing.
use native.Mathlib.Omega.{arith}
use borrow.Author.Tests.{lt-ltb, le-ltb}
use Rattle.reading.proofs.alike.Goals as goal

pub returns-then-a-start : goal.returns-then-a-start
returns-then-a-start c = rw (c.min.ensures, lt-ltb _ _ c.if-a-start.true)

pub returns-then-a-end : goal.returns-then-a-end
returns-then-a-end c = rw (c.min-then-a-end.ensures, le-ltb _ _ c.if-a-start.false, lt-ltb _ _ c.if-a-end.true)

pub returns : goal.returns
returns c = rw (le-ltb _ _ c.if-a-start.false, le-ltb _ _ c.if-a-end.false) (omega arith)
