-- What is left of the rows, looked up from here, is the whole table looked up. Assumes nothing.
use Rattle.grammar.specs.Table.{rows_in, first_of, row_in}
use lib.ListN.{drop}
use mathlib.Core.List.{map}
use mathlib.Core.Path.{◌≡◌}
use Rattle.grammar.proofs.table.first_of.Given as goal

abbrev pub invariant-loop-row : goal.invariant-loop-row
invariant-loop-row l = first_of (map row_in (drop l.row-index l.rows)) l.place l.w l.name ≡ first_of (rows_in l.text) l.place l.w l.name
