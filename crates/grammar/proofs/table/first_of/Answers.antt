use Rattle.grammar.specs.Table.{rows_in}
use Rattle.grammar.proofs.Lookups.{rows_are, row_met, other_place, other_class, rows_end}
use mathlib.Core.Path.{sym, ap, ◌∙◌}
use Rattle.std.specs.Prelude.{Some}
use Rattle.grammar.specs.declared.Entry.{Entry}
use Rattle.grammar.proofs.table.first_of.Goals as goal
use Rattle.grammar.proofs.table.first_of.Goals.{then-less-place+else-has_class, else-less-place}

pub loop-row-init : goal.loop-row-init
unfolding rows_in
loop-row-init c = rw (c.as_chunks.ensures.front, rows_are)

pub returns-then-has_class : goal.returns-then-has_class
returns-then-has_class c =
    ap (λ (e : Entry). Some e) c.entry_of-entry.ensures
    ∙ row_met _ _ _ _ _ c.loop-row-test.true (sym c.less.ensures ∙ c.if-less-place.true) (rw c.entry_of-entry.ensures at (sym c.has_class.ensures ∙ c.if-has_class.true))
    ∙ c.loop-row.invariant

pub loop-row-preserved : goal.loop-row-preserved
loop-row-preserved c = let l = c.loop-row in let a = c.args in
    elim c.if-less-place.branch [
      | then-less-place+else-has_class w ↦
          other_class c.as_chunks.result.0.now l.row-index a.place a.w a.name c.loop-row-test.true (sym c.less.ensures ∙ w.if-less-place.true) (rw w.entry_of-entry.ensures at (sym w.has_class.ensures ∙ w.if-has_class.false)) ∙ l.invariant
      | else-less-place w ↦
          other_place c.as_chunks.result.0.now l.row-index a.place a.w a.name c.loop-row-test.true (λ e. w.if-less-place.false (c.less.ensures ∙ e)) ∙ l.invariant
    ]

pub returns : goal.returns
returns c = rows_end _ _ _ _ _ c.loop-row-test.false ∙ c.loop-row.invariant
