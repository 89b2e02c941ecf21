-- What a call comes to has one record and one desk: a slice is the only one with its memory. Assumes nothing.
use mathlib.Core.Path.{◌≡◌, ap}
use Rattle.rules.proofs.Promises.{lent_one}
use Rattle.stations.specs.declared.StoreRecord.{StoreRecord}
use Rattle.stations.specs.Promises.{Desk, desk_of, Came, came_of}

-- the record and the four slices
abbrev pub Left : Type 0
Left = StoreRecord × Desk

pub came_one : (r r' : StoreRecord) (d d' : Desk) → came_of r d ≡ came_of r' d' → ◌≡◌ {A = Left} (r, d) (r', d')
came_one r r' d d' e i = (
  record { chip = (e i).ended.state.chip; number = (e i).ended.number; polls = (e i).ended.polls },
  desk_of (lent_one d.array d'.array (ap (λ (c : Came). c.ended.state.array) e) i) (lent_one d.security d'.security (ap (λ (c : Came). c.ended.state.security) e) i)
      (lent_one d.reply d'.reply (ap (λ (c : Came). c.reply) e) i) (lent_one d.marks d'.marks (ap (λ (c : Came). c.marks) e) i),
)
