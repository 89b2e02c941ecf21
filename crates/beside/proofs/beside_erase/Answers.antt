-- Nothing to refuse, or the clause's tests. Assumes nothing.
use Rattle.beside.proofs.Clauses.{found_inside}
use Rattle.beside.proofs.beside_erase.Goals as goal

pub holds_place-into-requires : goal.holds_place-into-requires
holds_place-into-requires c = found_inside c.args.aside _ c.requires c.array_range-erased.ensures
