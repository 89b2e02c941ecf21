-- The bytes are the rows of the table: computed. Assumes nothing.
use Rattle.grammar.specs.Table.{class_of, store_of, source_of, next_of, rows_in, rows_from, table, keys, word_list, position}
use Rattle.grammar.proofs.table.follows.Goals as goal

pub returns : goal.returns
unfolding next_of rows_in rows_from class_of store_of source_of table keys word_list position
returns c = rw (c.first_of.ensures, c.called-name.ensures)
