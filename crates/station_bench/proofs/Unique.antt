-- No second outcome: whatever meets the guarantee of an exported function at the same input is the same result and the same lent memory.
-- An equation; a slice is the only one with its memory. Assumes nothing.
use Prim.Native.Nat.{ℕ}
use mathlib.Core.Path.{◌≡◌, ap}
use mathlib.Core.List.{List}
use denote.MutBor.{MutBor}
use Rattle.rules.proofs.Promises.{one, lent_one}
use Rattle.rules.proofs.Outcomes.{OneOutcome}
use Rattle.stations.specs.Promises.{Desk, desk_of}
use Rattle.station_bench.specs.declared.Stored.{Stored}
use Rattle.station_bench.specs.Boundary.{Told, told_of, Found}
use Rattle.station_bench.proofs.fulkibono_station_find.Reads as find
use Rattle.station_bench.proofs.fulkibono_station_store.Reads as store

-- the record's bytes and the four slices
abbrev Lent : Type 0 → Type 0
Lent X = MutBor (List ℕ) × (MutBor (List ℕ) × (MutBor (List ℕ) × (MutBor (List ℕ) × (MutBor (List ℕ) × X))))

abbrev desk_in : {X : Type 0} → Lent X → Desk
desk_in a = desk_of a.1.0.now a.1.1.0.now a.1.1.1.0.now a.1.1.1.1.0.now

desk_one : (n p n' p' : ℕ) (l l' : List ℕ) (d d' : Desk) → told_of n p l d ≡ told_of n' p' l' d' → d ≡ d'
desk_one n p n' p' l l' d d' e i =
    desk_of (lent_one d.array d'.array (ap (λ (t : Told). t.array) e) i) (lent_one d.security d'.security (ap (λ (t : Told). t.security) e) i)
    (lent_one d.reply d'.reply (ap (λ (t : Told). t.reply) e) i) (lent_one d.marks d'.marks (ap (λ (t : Told). t.marks) e) i)

pub find_one : OneOutcome {S = ℕ × List ℕ × Desk × List ℕ} find.Post (λ r x. (r, x.0.now, desk_in x, x.1.1.1.1.1.1.0.now))
find_one κ a x y r r' p q =
    let e = one p.equal q.equal in
    λ i. ((e i).told.number, (e i).told.bytes, desk_one r 0 r' 0 x.0.now y.0.now (desk_in x) (desk_in y) (ap (λ (f : Found). f.told) e) i, (e i).buffer)

pub store_one : OneOutcome {S = Stored × List ℕ × Desk} store.Post (λ r x. (r, x.0.now, desk_in x))
store_one κ a x y r r' p q =
    let e = one p.equal q.equal in
    λ i. (record { polls = (e i).polls; number = (e i).number }, (e i).bytes, desk_one r.number r.polls r'.number r'.polls x.0.now y.0.now (desk_in x) (desk_in y) e i)
