-- The event of the line that reads the list. Assumes nothing.
use Rattle.calls.proofs.Copies.{shown_is}
use Rattle.calls.proofs.lent.shown.Goals as goal

pub returns : goal.returns
returns c = let a = c.args in
    shown_is a.b a.array.now a.security.now a.reply.now a.marks.now c.read_line-l.ensures c.happened-after.result c.answer_number.ensures _ _ _ _ c.happened-after.ensures
