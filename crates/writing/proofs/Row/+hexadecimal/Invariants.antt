-- The higher digits come first, by the same function, and then the lowest. Assumes nothing.
use Rattle.writing.proofs.Row.+hexadecimal.Given as goal

abbrev pub decreases-hexadecimal : goal.decreases-hexadecimal
decreases-hexadecimal l = l.k
