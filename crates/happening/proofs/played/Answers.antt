-- What happened, judged and counted. Assumes nothing.
use Rattle.happening.proofs.played.Goals as goal

pub shape_of-array : goal.shape_of-array
shape_of-array c = c.happened-after.auto.array

pub shape_of-security : goal.shape_of-security
shape_of-security c = c.happened-after.auto.security

pub returns : goal.returns
returns c = record {
  happened = rw (c.counted.ensures, c.answer_number-number.ensures) c.happened-after.ensures;
  judged = rw c.counted.ensures c.judged-v.ensures;
  playing = rw c.counted.ensures;
}
