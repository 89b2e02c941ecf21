-- By the setting. Assumes nothing.
use mathlib.Core.Path.{refl, ap}
use borrow.Author.Tests.{eq-eqb, ne_eqb}
use Rattle.rules.specs.Words.{lent}
use Rattle.arranging.proofs.arrange.Goals as goal

pub returns-in-New : goal.returns-in-New
returns-in-New c = rw c.in-New.is (record { array_is = ap lent c.blank.ensures; security_is = ap lent c.blank-in-New.ensures })

pub returns-then-slots-eq0 : goal.returns-then-slots-eq0
returns-then-slots-eq0 c = rw c.in-Fill.is (record { array_is = rw (eq-eqb _ _ c.if-slots-eq0.true) (ap lent c.fill.ensures); security_is = rw (eq-eqb _ _ c.if-slots-eq0.true) })

pub returns-else-slots-eq0 : goal.returns-else-slots-eq0
returns-else-slots-eq0 c = rw c.in-Fill.is (record { array_is = rw (ne_eqb _ _ c.if-slots-eq0.false); security_is = rw (ne_eqb _ _ c.if-slots-eq0.false) (ap lent c.fill-else-slots-eq0.ensures) })

pub returns-in-Pattern : goal.returns-in-Pattern
returns-in-Pattern c = rw c.in-Pattern.is (record { array_is = c.set_pattern.ensures; security_is = c.set_pattern-in-Pattern.ensures })
