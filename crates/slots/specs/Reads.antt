-- A read of the list as code has it: what it shows, and the slot that a search through it gives.
use Rattle.std.specs.Prelude.{ℕ, ◌≡◌, ◌<◌, Option, MatchOption}
use Rattle.stations.specs.Slots.{Shown, shown_in, slot_count}
use Rattle.slots.specs.declared.ListRead.{ListRead}

abbrev pub shown_of : ListRead → Shown
shown_of read = shown_in read.reply.now read.marks.now

-- slot n, none where n is 2,048
abbrev pub IsSlot : ℕ → Option ℕ → Type 0
IsSlot n found = MatchOption found (n ≡ slot_count) (λ i. (i ≡ n) × (i < slot_count))
