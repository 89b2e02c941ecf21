-- 02, W-206: the writes of a call, each a frame, by what its one read shows.
use Rattle.std.specs.Prelude.{ℕ, ◌+◌, ◌*◌, ◌/◌, ◌%◌, List, [], ◌∷◌, ltb}
use Rattle.rules.specs.Words.{pick}
use Rattle.stations.specs.Slots.{Shown, slot_size, slot_count, those_from, live_of, slot_of, free_slot}

-- the frames of a call's writes in turn, or the number that refuses it
pub data Plan : Type 0 where
  refused : ℕ → Plan
  writing : List (List ℕ) → Plan

-- 02 at the place p of the list, which "uses 010000 to 01FFFF"
abbrev pub program_at : ℕ → List ℕ → List ℕ
program_at p bytes = 0x02 ∷ 0x01 ∷ p / 256 % 256 ∷ p % 256 ∷ bytes

-- "writes number and data"
abbrev pub record_frame : ℕ → ℕ → List ℕ → List ℕ
record_frame i n bytes = program_at (i * slot_size + 2) (n / 256 % 256 ∷ n % 256 ∷ bytes)

-- the two bytes of a mark
abbrev pub mark_frame : ℕ → ℕ → ℕ → List ℕ
mark_frame i a b = program_at (i * slot_size) (a ∷ b ∷ [])

-- "then clears to 00 00 the mark of each other live slot of that number, lowest first"
unfoldable pub clearings : List ℕ → List (List ℕ)
clearings [] = []
clearings (i ∷ is) = mark_frame i 0x00 0x00 ∷ clearings is

-- "number and data into the first empty slot, then its mark in a second write"; the other live slots are those that the read shows
abbrev pub storing_at : Shown → ℕ → List ℕ → ℕ → List (List ℕ)
storing_at v n bytes i = record_frame i n bytes ∷ mark_frame i 0x53 0x54 ∷ clearings (those_from (live_of v n) 0 slot_count)

-- "16 exactly if the read shows no empty slot"
unfoldable pub storing : Shown → ℕ → List ℕ → Plan
storing v n bytes = pick (ltb (free_slot v) slot_count) (writing (storing_at v n bytes (free_slot v))) (refused 16)

-- "17 exactly if lookup's read shows no such live slot"; lookup writes nothing
unfoldable pub looking_up : Shown → ℕ → Plan
looking_up v n = pick (ltb (slot_of v n) slot_count) (writing []) (refused 17)
