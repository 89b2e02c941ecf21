-- 02, W-206, "2,048 slots of 32 bytes: mark 53 54, station number in two bytes, 28 bytes of data": slots, as one read of the list shows them.
use Rattle.std.specs.Prelude.{ℕ, zero, suc, ◌+◌, ◌*◌, Bool, true, false, not, ◌&&◌, ◌||◌, List, [], ◌∷◌, eqb, ltb, get_or}
use Rattle.rules.specs.declared.Cell.{Cell}
use Rattle.rules.specs.Words.{pick}

-- the byte and the mark at each place of the list, counted from its first
abbrev pub Shown : Type 0
Shown = ℕ → Cell

-- as the two buffers of a read hold it
abbrev pub shown_in : List ℕ → List ℕ → Shown
shown_in reply marks p = record { byte = get_or reply p 0; mark = get_or marks p 0 }

-- a list that begins with these bytes and is FF behind them
abbrev pub shown_from : List ℕ → Shown
shown_from bytes p = record { byte = get_or bytes p 0xFF; mark = 1 }

abbrev pub slot_size : ℕ
slot_size = 32

abbrev pub slot_count : ℕ
slot_count = 2048

abbrev pub data_size : ℕ
data_size = 28

-- ---- numbers at which a test holds

-- each number below n; some number below n
unfoldable pub all_below : ℕ → (ℕ → Bool) → Bool
all_below zero t = true
all_below (suc n) t = all_below n t && t n

unfoldable pub some_below : ℕ → (ℕ → Bool) → Bool
some_below zero t = false
some_below (suc n) t = some_below n t || t n

-- of n numbers from i on: the first, i + n where there is none; all of them, lowest first
unfoldable pub first_from : (ℕ → Bool) → ℕ → ℕ → ℕ
first_from t i zero = i
first_from t i (suc n) = pick (t i) i (first_from t (suc i) n)

unfoldable pub those_from : (ℕ → Bool) → ℕ → ℕ → List ℕ
those_from t i zero = []
those_from t i (suc n) = pick (t i) (i ∷ those_from t (suc i) n) (those_from t (suc i) n)

-- ---- the classes of a slot

-- byte j of slot i
unfoldable pub byte_of : Shown → ℕ → ℕ → ℕ
byte_of v i j = (v (i * slot_size + j)).byte

-- "empty if all FF"
unfoldable pub empty : Shown → ℕ → Bool
empty v i = all_below slot_size (λ j. eqb (byte_of v i j) 0xFF)

-- "live if its mark is 53 54"
unfoldable pub live : Shown → ℕ → Bool
live v i = eqb (byte_of v i 0) 0x53 && eqb (byte_of v i 1) 0x54

-- "dead otherwise"
unfoldable pub dead : Shown → ℕ → Bool
dead v i = not (empty v i || live v i)

-- ---- stations

-- "station number in two bytes", the high one first
unfoldable pub station : Shown → ℕ → ℕ
station v i = byte_of v i 2 * 256 + byte_of v i 3

unfoldable pub live_of : Shown → ℕ → ℕ → Bool
live_of v n i = live v i && eqb (station v i) n

-- "the first live slot of that number", 2,048 where there is none
unfoldable pub slot_of : Shown → ℕ → ℕ
slot_of v n = first_from (live_of v n) 0 slot_count

-- a live slot of whose number another lies before it: lookup passes over it
unfoldable pub passed_over_lem : Shown → ℕ → Bool
passed_over_lem v i = live v i && some_below i (live_of v (station v i))

-- the bytes of slot i from byte j on, n of them
unfoldable pub bytes_of : Shown → ℕ → ℕ → ℕ → List ℕ
bytes_of v i j zero = []
bytes_of v i j (suc n) = byte_of v i j ∷ bytes_of v i (suc j) n

-- "Lookup gives the data of the first live slot of that number": nothing where there is none
unfoldable pub found : Shown → ℕ → List ℕ
found v n = pick (ltb (slot_of v n) slot_count) (bytes_of v (slot_of v n) 4 data_size) []

-- "the first empty slot", 2,048 where there is none
unfoldable pub free_slot : Shown → ℕ
free_slot v = first_from (empty v) 0 slot_count
