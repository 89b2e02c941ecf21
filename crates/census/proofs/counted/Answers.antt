use Rattle.census.specs.Census.{count_below, counts_below}
use borrow.Author.Rules.{rules}
use Rattle.census.proofs.counted.Goals as goal

pub loop-i-init : goal.loop-i-init
unfolding counts_below count_below
loop-i-init c = search rules
