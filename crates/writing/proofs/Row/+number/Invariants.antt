-- A number below ten is its digit; of another the higher digits come first, by the same function, and then the lowest. Assumes nothing.
use Rattle.writing.proofs.Row.+number.Given as goal

abbrev pub decreases-number : goal.decreases-number
decreases-number l = l.n
