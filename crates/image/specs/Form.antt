-- 02, W-203, Chips sent by post: the file of a chip. "Write and read a whole idle chip as records."
use Rattle.std.specs.Prelude.{ℕ, zero, suc, ◌+◌, ◌*◌, ◌/◌, ◌%◌, List, [], ◌∷◌, ◌++◌, take, drop}
use Prim.Native.String.{String}
use Rattle.rules.specs.declared.Chip.{Chip}
use Rattle.rules.specs.declared.Rest.{Rest}
use Rattle.rules.specs.Texts.{ascii}
use Rattle.rules.specs.Bursts.{burst_byte}
use Rattle.rules.specs.Fields.{flags_number}

-- ---- "high byte first"

-- x in n bytes: the lowest stands last
unfoldable pub high_first : ℕ → ℕ → List ℕ
high_first zero x = []
high_first (suc n) x = high_first n (x / 256) ++ x % 256 ∷ []

-- the number in some bytes; those before them stand for x
unfoldable pub number_from : ℕ → List ℕ → ℕ
number_from x [] = x
number_from x (b ∷ bs) = number_from (x * 256 + b) bs

abbrev pub number : List ℕ → ℕ
number = number_from 0

-- ---- "Each record has a two-byte ASCII mark, a fixed body and a 16-bit sum of the body's bytes that wraps at 65,536, high byte first."

unfoldable pub total : List ℕ → ℕ
total [] = 0
total (b ∷ bs) = b + total bs

abbrev pub sum : List ℕ → ℕ
sum body = total body % 65_536

unfoldable pub record_of : String → List ℕ → List ℕ
record_of mark body = ascii mark ++ body ++ high_first 2 (sum body)

-- ---- "RG, 14 bytes (protection 6, permanent 6, flags 1, burst code 1)"
-- "Flags from bit 0: SQI, WEL, IOC, WPEN, WPLD, SEC, reset enable", and by W-204 "bit 7 .. holds" the part, "1 for BA": that is flags_number

unfoldable pub registers : Rest → List ℕ
registers r = high_first 6 r.locks.protection ++ high_first 6 r.locks.permanent ++ flags_number r.flags ∷ burst_byte r.burst ∷ []

-- ---- "PG, 258 bytes (page number from 0 up, high byte first, then the page)"

abbrev pub page_of : List ℕ → ℕ → List ℕ
page_of array n = take 256 (drop (n * 256) array)

abbrev pub page_record : List ℕ → ℕ → List ℕ
page_record array n = record_of "PG" (high_first 2 n ++ page_of array n)

-- ---- "In order: RG; SI, 2,048 bytes; then 8,192 times PG"

-- the pieces 0 to n - 1 in a row
unfoldable pub joined : (ℕ → List ℕ) → ℕ → List ℕ
joined piece zero = []
joined piece (suc n) = joined piece n ++ piece n

unfoldable pub file_of : Chip → List ℕ → List ℕ → List ℕ
file_of c array security = record_of "RG" (registers c.rest) ++ record_of "SI" security ++ joined (page_record array) 8_192

-- "That is 2,148,374 bytes"
abbrev pub file_size_lem : ℕ
file_size_lem = 2_148_374
