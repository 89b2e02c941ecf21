-- What is left of the words, looked up from here, is the whole list looked up. Assumes nothing.
use Rattle.grammar.specs.Table.{position, keys_from}
use lib.ListN.{drop}
use mathlib.Core.Path.{◌≡◌}
use Rattle.grammar.proofs.table.position.Given as goal

abbrev pub invariant-loop-b : goal.invariant-loop-b
invariant-loop-b l = position l.key l.n (keys_from l.k (drop l.b-index l.text)) ≡ position l.key 16 (keys_from 1 l.text)
