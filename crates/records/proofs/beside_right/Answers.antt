-- Beside nothing all is right; else the tests of the two ranges and of the two kinds, as in the rule. Assumes nothing.
use mathlib.Core.Path.{sym, ap₂, ◌∙◌}
use mathlib.Core.Bool.{◌||◌}
use Rattle.records.proofs.Records.{found_inside, one_alone, two_beside}
use Rattle.records.proofs.beside_right.Goals as goal

pub returns-then-is_nothing : goal.returns-then-is_nothing
returns-then-is_nothing c = let a = c.args in one_alone a.r a.s (ap₂ ◌||◌ (sym c.is_nothing.ensures) (sym c.is_nothing-2.ensures) ∙ c.if-is_nothing.true)

pub overlaps-requires : goal.overlaps-requires
overlaps-requires c = let s = c in (found_inside s.args.r _ s.requires.0 c.array_range-range.ensures, found_inside s.args.s _ s.requires.1 c.array_range-other.ensures)

pub returns : goal.returns
returns c = let a = c.args in
    rw (c.overlaps.ensures, c.is_erase-2.ensures, c.is_program-2.ensures, c.is_program.ensures, c.is_erase.ensures, c.array_range-other.ensures, c.array_range-range.ensures)
    (two_beside a.r a.s (ap₂ ◌||◌ (sym c.is_nothing.ensures) (sym c.is_nothing-2.ensures) ∙ c.if-is_nothing.false))
