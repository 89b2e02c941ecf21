-- The byte is read; where it ends a line, that is played. Assumes nothing.
use Rattle.playing.proofs.Lines.{none_played}
use Rattle.playing.proofs.take.Goals as goal

pub returns : goal.returns
returns c = let a = c.args in
    record {
      reading = c.step-reading.result;
      read = c.step-reading.ensures;
      played = none_played a.p c.step-reading.result a.array.now a.security.now _ _ _ a.reply.now a.marks.now _ c.if-reading.false c.with_reading-now.ensures;
    }
