-- No second outcome: whatever meets the guarantee of a public function of this crate at the same input is the same record and the same lent memory.
-- An equation; a slice is the only one with its memory. Assumes nothing.
use Prim.Native.Nat.{ℕ}
use mathlib.Core.Path.{◌≡◌, refl, ap}
use mathlib.Core.List.{List}
use seplogic.Ra.Ura.{Ura}
use base.Logic.{SProp}
use prog.Memory.{Memory}
use prog.Routine.{Routine}
use types.Logic.{Logic}
use contract.Monad.{Fun, fact}
use contract.Lifetimes.{Lfts}
use denote.Ref.{Bor}
use denote.MutBor.{MutBor}
use Rattle.rules.proofs.Promises.{one}
use Rattle.rules.proofs.Outcomes.{OneOutcome}
use Rattle.stations.specs.declared.StoreRecord.{StoreRecord}
use Rattle.stations.specs.Promises.{Desk, desk_of, Looked, StorePromise, LookupPromise}
use Rattle.stations.proofs.Unique.{Left, came_one}
use Rattle.desk.specs.contracts.find as find
use Rattle.desk.specs.contracts.keep as keep

-- what is lent first to both: the record and the four slices; what else find gets, and keep
abbrev Lent : Type 0 → Type 0
Lent X = MutBor StoreRecord × (MutBor (List ℕ) × (MutBor (List ℕ) × (MutBor (List ℕ) × (MutBor (List ℕ) × X))))

abbrev Sought : Type 0
Sought = ℕ × (MutBor (List ℕ) × Unit {0})

abbrev Kept : Type 0
Kept = ℕ × (Bor (List ℕ) × (ℕ × (Bor (List ℕ) × Unit {0})))

abbrev desk_in : {X : Type 0} → Lent X → Desk
desk_in a = desk_of a.1.0.now a.1.1.0.now a.1.1.1.0.now a.1.1.1.1.0.now

-- ---- the post-conditions, as the contracts have them

abbrev FindPost : Lfts 6 → Lent Sought → Unit {0} → Lent Sought → Type 0
FindPost κs a r x = LookupPromise a.0.now (desk_in a) a.1.1.1.1.1.0 a.1.1.1.1.1.1.0.now x.0.now (desk_in x) x.1.1.1.1.1.1.0.now

abbrev KeepPost : Lfts 7 → Lent Kept → Unit {0} → Lent Kept → Type 0
KeepPost κs a r x = StorePromise a.0.now (desk_in a) a.1.1.1.1.1.0 a.1.1.1.1.1.1.0.now a.1.1.1.1.1.1.1.0 a.1.1.1.1.1.1.1.1.0.now x.0.now (desk_in x)

module _ {M : Type 1} {𝓤 : Ura M} (𝓛 : Logic 𝓤) (mem : Memory → SProp 𝓤) (run : Routine → Fun 𝓤) where
  pub find_says : (κs : Lfts 6) (a x : Lent Sought) → (find.clauses 𝓛 mem run κs a).ensures tt tt x ≡ fact 𝓤 (FindPost κs a tt x)
  find_says κs a x = refl

  pub keep_says : (κs : Lfts 7) (a x : Lent Kept) → (keep.clauses 𝓛 mem run κs a).ensures tt tt x ≡ fact 𝓤 (KeepPost κs a tt x)
  keep_says κs a x = refl

-- ---- one outcome

abbrev left_in : {X : Type 0} → Lent X → Left
left_in x = (x.0.now, desk_in x)

pub find_one : OneOutcome {S = Left × List ℕ} FindPost (λ r x. (left_in x, x.1.1.1.1.1.1.0.now))
find_one κs a x y r r' p q =
    let e = one p.equal q.equal in
    λ i. (came_one x.0.now y.0.now (desk_in x) (desk_in y) (ap (λ (l : Looked). l.came) e) i, (e i).buffer)

pub keep_one : OneOutcome KeepPost (λ r x. left_in x)
keep_one κs a x y r r' p q = came_one x.0.now y.0.now (desk_in x) (desk_in y) (one p.equal q.equal)
