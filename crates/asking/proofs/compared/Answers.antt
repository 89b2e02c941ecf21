-- By whether a place differs. Assumes nothing.
use Rattle.asking.proofs.compared.Goals as goal

pub returns-then-held-n : goal.returns-then-held-n
returns-then-held-n c = record { first = rw c.answered.ensures c.first_unheld-held.ensures; playing = rw (c.answered.ensures, c.one_unmet.ensures, ← c.remainder.ensures, ← c.past_end.ensures, c.if-held-n.true) }

pub returns : goal.returns
returns c = record { first = rw c.answered-2.ensures c.first_unheld-held.ensures; playing = rw (c.answered-2.ensures, ← c.remainder.ensures, ← c.past_end.ensures, c.if-held-n.false) }
