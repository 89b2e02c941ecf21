-- A test that fails decides; where all pass, the rest of the rule decides. Assumes nothing.
use mathlib.Core.Path.{sym, ◌∙◌}
use Rattle.rules.specs.WellFormed.{well_formed}
use Rattle.records.proofs.Records.{low_register, not_registers, rest_decides, wrong_running, wrong_suspended}
use Rattle.records.proofs.well_formed_at_work.Goals as goal

pub returns-then-not-locks_right : goal.returns-then-not-locks_right
unfolding well_formed
returns-then-not-locks_right c = not_registers _ _ _ c.locks_right.ensures c.if-not-locks_right.true

pub returns-then-not-numbers_right : goal.returns-then-not-numbers_right
unfolding well_formed
returns-then-not-numbers_right c = let a = c.args in rest_decides _ _ _ _ c.locks_right.ensures c.if-not-locks_right.false (wrong_running a.r.locks.protection a.r.flags.sec a.page.now a.r.works.running a.r.works.suspended _ c.numbers_right.ensures c.if-not-numbers_right.true)

pub returns-then-not-numbers_right-2 : goal.returns-then-not-numbers_right-2
unfolding well_formed
returns-then-not-numbers_right-2 c = let a = c.args in rest_decides _ _ _ _ c.locks_right.ensures c.if-not-locks_right.false (wrong_suspended a.r.locks.protection a.r.flags.sec a.page.now a.r.works.running a.r.works.suspended _ _ c.numbers_right.ensures c.if-not-numbers_right.false c.numbers_right-2.ensures c.if-not-numbers_right-2.true)

pub works_right-requires : goal.works_right-requires
unfolding well_formed
works_right-requires c = (sym c.numbers_right.ensures ∙ c.if-not-numbers_right.false, (sym c.numbers_right-2.ensures ∙ c.if-not-numbers_right-2.false, (low_register _ _ c.locks_right.ensures c.if-not-locks_right.false, c.requires)))

pub returns : goal.returns
unfolding well_formed
returns c = rest_decides _ _ _ _ c.locks_right.ensures c.if-not-locks_right.false c.works_right.ensures
