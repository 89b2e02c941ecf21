-- No second outcome: whatever meets the guarantee of a public function of this crate at the same input is the same record and the same lent memory.
-- An equation; a slice is the only one with its memory. Assumes nothing.
use Prim.Native.Nat.{ℕ}
use mathlib.Core.Path.{ap}
use mathlib.Core.List.{List}
use denote.MutBor.{MutBor}
use Rattle.rules.proofs.Promises.{one}
use Rattle.rules.proofs.Outcomes.{OneOutcome}
use Rattle.stations.specs.declared.StoreRecord.{StoreRecord}
use Rattle.stations.specs.Promises.{Desk, desk_of, Looked}
use Rattle.stations.proofs.Unique.{Left, came_one}
use Rattle.store.proofs.lookup.Reads as lookup
use Rattle.store.proofs.store.Reads as store

-- what is lent to both: the four slices, behind the record
abbrev Lent : Type 0 → Type 0
Lent X = StoreRecord × (MutBor (List ℕ) × (MutBor (List ℕ) × (MutBor (List ℕ) × (MutBor (List ℕ) × X))))

abbrev desk_in : {X : Type 0} → Lent X → Desk
desk_in a = desk_of a.1.0.now a.1.1.0.now a.1.1.1.0.now a.1.1.1.1.0.now

pub lookup_one : OneOutcome {S = Left × List ℕ} lookup.Post (λ r x. ((r, desk_in x), x.1.1.1.1.1.1.0.now))
lookup_one κ a x y r r' p q =
    let e = one p.equal q.equal in
    λ i. (came_one r r' (desk_in x) (desk_in y) (ap (λ (l : Looked). l.came) e) i, (e i).buffer)

pub store_one : OneOutcome {S = Left} store.Post (λ r x. (r, desk_in x))
store_one κ a x y r r' p q = came_one r r' (desk_in x) (desk_in y) (one p.equal q.equal)
