-- At rest, and at work. Assumes nothing.
use mathlib.Core.Path.{sym, ◌∙◌}
use Rattle.rules.proofs.Bools.{and_split}
use Rattle.records.proofs.Records.{at_rest}
use Rattle.records.proofs.well_formed.Goals as goal

pub returns-then-is_nothing : goal.returns-then-is_nothing
returns-then-is_nothing c = let h = and_split _ _ c.if-is_nothing.true in rw (c.first_ff.ensures, c.locks_right.ensures) (at_rest c.args.r c.args.page.now (sym c.is_nothing.ensures ∙ h.0) (sym c.is_nothing-2.ensures ∙ h.1))

pub returns : goal.returns
returns c = c.well_formed_at_work.ensures
