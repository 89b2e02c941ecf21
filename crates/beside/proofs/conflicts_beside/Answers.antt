-- As in the rule; an opcode that goes to no block meets the first three clauses only. Assumes nothing.
use Rattle.beside.proofs.conflicts_beside.Goals as goal

pub returns : goal.returns
returns c = let w = c in
    let n = w in
    rw (c.beside_program-program.ensures, c.beside_erase-erase.ensures, w.is_nothing-3.ensures, w.must_wait.ensures, n.is_nothing-2.ensures, n.is-2.ensures, n.is_nothing.ensures, n.can_suspend.ensures, n.is.ensures)
