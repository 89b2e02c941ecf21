-- The three alternatives of the rule. Assumes nothing.
use Rattle.records.proofs.buffer_right.Goals as goal

pub returns : goal.returns
returns c = rw (c.first_ff.ensures, c.is_program-2.ensures, c.is_program.ensures)
