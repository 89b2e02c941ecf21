-- What a line says to the store: a number, the data, the polls that are allowed, and before which of them each write ends.
use Rattle.std.specs.Prelude.{ℕ, zero, suc, ◌+◌, ◌*◌, ◌%◌, Bool, not, ◌&&◌, List, [], ◌∷◌, leb, length, get_or, replicate}
use Rattle.rules.specs.Words.{pick}
use Rattle.meanings.specs.Meanings.{over}
use Rattle.stations.specs.Slots.{first_from, data_size}
use Rattle.stations.specs.Given.{in_time}
use Rattle.grammar.specs.Slots as slots
use Rattle.fields.specs.Records.{slot, said}

abbrev pub station_of : List ℕ → ℕ
station_of s = slot s slots.station % 65536

-- "the letters of a word, filled up with blanks to 28 bytes"; bytes, and a longer word, are as they stand
unfoldable pub data_of : List ℕ → List ℕ → List ℕ
data_of s sent = pick (said s slots.as_text && leb (length sent) data_size) (over sent (replicate data_size 0x20)) sent

-- "65535 where polls does not stand"
unfoldable pub allowance_of : List ℕ → ℕ
allowance_of s = pick (said s slots.polls_given) (slot s slots.polls) 65535

-- an entry by its high byte and its low one, 0 behind the last; where list does not stand, each write ends before its first poll
unfoldable pub entry_at : Bool → List ℕ → List ℕ → ℕ → ℕ
entry_at given high low j = pick given (get_or high j 0 * 256 + get_or low j 0) 1

unfoldable pub entries_from : (ℕ → ℕ) → ℕ → ℕ → List ℕ
entries_from f j zero = []
entries_from f j (suc n) = f j ∷ entries_from f (suc j) n

-- a store has at most 2,050 writes
abbrev pub list_length : ℕ
list_length = 2050

unfoldable pub list_of : List ℕ → List ℕ → List ℕ → List ℕ
list_of s high low = entries_from (entry_at (said s slots.list_given) high low) 0 list_length

-- how many writes would end in time, one after the other
unfoldable pub writes_ended : ℕ → List ℕ → ℕ
writes_ended allowance list = first_from (λ j. not (in_time allowance (get_or list j 0))) 0 list_length
