-- The memories, then the bench. Assumes nothing.
use Rattle.arranging.proofs.played.Goals as goal

pub returns : goal.returns
returns c = record { arranged = c.arrange.ensures; playing = rw (c.with_bench.ensures, c.set.ensures) }
