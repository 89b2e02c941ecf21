-- The two bytes of the map that are not 0 are those that the table gives. Assumes nothing.
use mathlib.Core.Path.{refl}
use Rattle.serprog.specs.Commands.{answer_of, padded, map_bytes, map_from, map_byte, has_row, rows}
use Rattle.serprog.proofs.commands.map.Goals as goal

pub returns : goal.returns
unfolding answer_of padded map_bytes map_from map_byte has_row rows
returns c = c.answer_of.ensures
