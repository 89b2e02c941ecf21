-- Which number each opcode gets: a line for each chip, of the old part, of BA or of either, a column for each opcode of 01's table "Frames" and of 02's. Proved in proofs/Opcodes.
use Rattle.std.specs.Prelude.{ℕ, ◌-◌, ◌<◌, ◌≡◌, Bool, not, List, [], ◌∷◌, ◌++◌, map, length, take}
use Prim.Native.Char.{code}
use Prim.Native.String.{String}
use Rattle.rules.specs.declared.Rest.{Rest}
use Rattle.rules.specs.Words.{pick, one_of, Each}
use Rattle.rules.specs.Frames.{form_of}
use Rattle.rules.specs.Numbers.{State, not_listed_lem}
use Rattle.rules.specs.Machine.{Event, step}
use Rattle.rules.specs.Texts.{ascii}
use Rattle.rules.specs.Cases.{split, words, numeral, bytes_of, send, events, old, ba, either, new_state, state_after}

-- ---- the opcodes, of all 256 bytes, that are listed in each protocol

unfoldable pub spi_opcodes : List ℕ
spi_opcodes = bytes_of (words (ascii "00 66 99 38 FF 05 35 72 9F 03 0B 6B 88 06 04 20 D8 C7 02 32 A5 85 01 42 E8 8D 98 B0 30 C0 EC"))

unfoldable pub sqi_opcodes : List ℕ
sqi_opcodes = bytes_of (words (ascii "00 66 99 FF 05 35 72 AF 0B 88 06 04 20 D8 C7 02 A5 85 01 42 E8 8D 98 B0 30 C0 0C"))

-- 3: opcode not listed, or not in this protocol; 4: "or more" stands at 02, 32 and A5
pub record ListedOpcodes : Type 0 where
  pub in_protocol : (r : Rest) (o : ℕ) → o < 256 → not_listed_lem r o ≡ not (one_of o (pick r.flags.sqi sqi_opcodes spi_opcodes))
  pub or_more : (o : ℕ) → o < 256 → (form_of o).more ≡ one_of o (0x02 ∷ 0x32 ∷ 0xA5 ∷ [])

-- ---- a frame of each opcode, as long as it should be

-- frames in a text, between commas
abbrev pub frames_in : String → List (List ℕ)
frames_in t = map (λ part. bytes_of (words part)) (split (code ",") (ascii t))

-- in SPI; AF and 0C, which are not in it, as in SQI
unfoldable pub in_spi_lem : List (List ℕ)
in_spi_lem =
    frames_in "00, 66, 99, 38, FF, 05, 35, 72, 9F, AF 00, 03 00 10 00, 0B 00 10 00 00, 6B 00 10 00 00, 88 00 10 00, 06, 04"
    ++ frames_in "20 00 10 00, D8 00 10 00, C7, 02 00 10 00 00, 32 00 10 00 00, A5 00 08 00, 85, 01 00 00"
    ++ frames_in "42 00 00 00 00 00 00, E8 00 00 00 00 00 00, 8D, 98, B0, 30, C0 00, 0C 00 10 00 00 00 00, EC 00 10 00 00 00 00"

-- in SQI; 38, 9F, 03, 6B, 32 and EC, which are not in it, as in SPI
unfoldable pub in_sqi_lem : List (List ℕ)
in_sqi_lem =
    frames_in "00, 66, 99, 38, FF, 05 00, 35 00, 72 00, 9F, AF 00, 03 00 10 00, 0B 00 10 00 00 00 00, 6B 00 10 00 00, 88 00 10 00 00 00, 06, 04"
    ++ frames_in "20 00 10 00, D8 00 10 00, C7, 02 00 10 00 00, 32 00 10 00 00, A5 00 08 00, 85, 01 00 00"
    ++ frames_in "42 00 00 00 00 00 00, E8 00 00 00 00 00 00, 8D, 98, B0, 30, C0 00, 0C 00 10 00 00 00 00, EC 00 10 00 00 00 00"

-- one byte less; one byte more
abbrev pub shorter : List (List ℕ) → List (List ℕ)
shorter fs = map (λ f. take (length f - 1) f) fs

abbrev pub longer : List (List ℕ) → List (List ℕ)
longer fs = map (λ f. f ++ 0x00 ∷ []) fs

-- ---- the lines

pub record Line : Type 0 where
  pub parts : List Bool
  pub chip : String
  pub start : List Event
  pub tried : List (List ℕ)
  pub numbers : List ℕ

-- the number of each frame; the frames; the part; the chip in words; the events that make a new one such a chip
abbrev pub line : String → List (List ℕ) → List Bool → String → String → Line
line ns fs ps chip start = record { parts = ps; chip = chip; start = events start; tried = fs; numbers = map (numeral 10 0) (words (ascii ns)) }

unfoldable pub numbers_by_opcode : List Line
numbers_by_opcode =
    --      00 66 99 38 FF 05 35 72 9F AF 03 0B 6B 88 06 04 20 D8 C7 02 32 A5 85 01 42 E8 8D 98 B0 30 C0 0C EC
    line "   0  0  6  0  0  0  0  0  0  3  0  0  7  0  0  0  9  9  9  9  7  9  9  9  9  9  9  9  8  8  0  3  7" in_spi_lem old "new" ""
    ∷ line " 2  2  2  2  2  2  2  2  2  3  4  4  4  4  2  2  4  4  2  4  4  4  2  4  4  4  2  2  2  2  4  3  4" (shorter in_spi_lem) either "new" ""
    ∷ line " 4  4  4  4  4  4  4  4  4  3  4  4  4  4  4  4  4  4  4  9  7  9  4  4  4  4  4  4  4  4  4  3  4" (longer in_spi_lem) old "new" ""
    ∷ line " 0  0  6  0  0  4  4  4  0  3  0  4  7  4  0  0  9  9  9  9  7  9  9  9  9  9  9  9  8  8  0  3  7" in_sqi_lem old "new" ""
    ∷ line " 0  0  6  0  0  0  0  0  0  3  0  0  7  0  0  0 11 11 11 11  7  0  0  0  0  0  0  0  8  8  0  3  7" in_spi_lem old "WEL 1" "06"
    ∷ line " 0  0  6  0  0  0  0  0  0  3  0  0  7  0  0  0  0  0  0  0  7  0  0  0  0  0  0  0  8  8  0  3  7" in_spi_lem old "WEL 1, no lock" "open, 06"
    -- BA has IOC 1 from the start, and again after a reset and a power cut
    ∷ line " 0  0  6  0  0  0  0  0  0  3  0  0  0  0  0  0  9  9  9  9  9  9  9  9  9  9  9  9  8  8  0  3  0" in_spi_lem ba "new" ""
    ∷ line " 2  2  2  2  2  2  2  2  2  3  4  4  4  4  2  2  4  4  2  4  4  4  2  4  4  4  2  2  2  2  4  3  4" (shorter in_spi_lem) ba "new" ""
    ∷ line " 4  4  4  4  4  4  4  4  4  3  4  4  4  4  4  4  4  4  4  9  9  9  4  4  4  4  4  4  4  4  4  3  4" (longer in_spi_lem) ba "new" ""
    ∷ line " 0  0  6  0  0  0  0  0  0  3  0  0  0  0  0  0 11 11 11 11 11  0  0  0  0  0  0  0  8  8  0  3  0" in_spi_lem ba "WEL 1" "06"
    ∷ line " 0  0  6  0  0  0  0  0  0  3  0  0  0  0  0  0  0  0  0  0  0  0  0  0  0  0  0  0  8  8  0  3  0" in_spi_lem ba "WEL 1, no lock" "open, 06"
    ∷ line " 0  0  6  0  0  0  0  0  0  3  0  0  0  0  0  0  9  9  9  9  9  9  9  9  9  9  9  9  8  8  0  3  0" in_spi_lem ba "IOC 0, then a reset" "06, 01 00 00, completion, 66, 99"
    ∷ line " 0  0  6  0  0  0  0  0  0  3  0  0  7  0  0  0  9  9  9  9  7  9  9  9  9  9  9  9  8  8  0  3  7" in_spi_lem old "IOC 1, then a reset" "06, 01 00 02, completion, 66, 99"
    ∷ line " 0  0  6  0  0  0  0  0  0  3  0  0  0  0  0  0  9  9  9  9  9  9  9  9  9  9  9  9  8  8  0  3  0" in_spi_lem ba "01 in flight, then a power cut" "06, 01 00 00, cut 1"
    ∷ line " 0  0  6  0  0  0  0  0  0  3  0  0  7  0  0  0  9  9  9  9  7  9  9  9  9  9  9  9  8  8  0  3  7" in_spi_lem old "01 in flight, then a power cut" "06, 01 00 02, cut 1"
    ∷ line " 0  0  6  0  0  0  0  0  0  3  0  0  7  0  0  0  9  9  9  9  7  9  9  9  9  9  9  9  8  8  0  3  7" in_spi_lem either "IOC 0" "06, 01 00 00, completion"
    ∷ line " 0  0  6  0  0  0  0  0  0  3  0  0  0  0  0  0  9  9  9  9  9  9  9  9  9  9  9  9  8  8  0  3  0" in_spi_lem either "IOC 1" "06, 01 00 02, completion"
    ∷ line " 0  0  6  0  0  0  0  0  0  3  0  0  0  0  0  0 11 11 11 11 11  0  0  0  0  0  0  0  8  8  0  3  0" in_spi_lem either "IOC 1, WEL 1" "06, 01 00 02, completion, 06"
    ∷ line " 0  0  0  0  0  0  0  0  0  3  0  0  7  0  0  0  9  9  9  9  7  9  9  9  9  9  9  9  8  8  0  3  7" in_spi_lem old "reset enabled" "66"
    ∷ line " 0  0  6  0  0  0  0  0  0  3  0  0  7  0  0  0  9  9  9  9  7  9  9  9  9  9  9  9  8  8  0  3  7" in_spi_lem old "WPLD 1" "06, 8D"
    ∷ line " 0  0  6  0  0  0  0  0  0  3  0  0  7  0  0  0  0  0  0  0  7  0  0  0 10  0  0 10  8  8  0  3  7" in_spi_lem old "WPLD 1, WEL 1, no lock" "open, 06, 8D, 06"
    ∷ line " 0  0  6  0  0  0  0  0  0  3  0  0  7  0  0  0 11 11 11 11  7 10 10  0  0  0  0  0  8  8  0  3  7" in_spi_lem old "SEC 1, WEL 1" "06, 85, completion, 06"
    ∷ line " 5  0  6  5  5  0  5  5  5  3  5  5  5  5  5  5  5  5  5  5  5  5  5  5  5  5  5  5  0  5  5  3  5" in_spi_lem either "20 runs" "open, 06, 20 00 10 00"
    ∷ line " 5  0  6  5  5  0  5  5  5  3  5  5  5  5  5  5  5  5  5  5  5  5  5  5  5  5  5  5  0  5  5  3  5" in_spi_lem either "D8 runs" "open, 06, D8 00 10 00"
    ∷ line " 5  0  6  5  5  0  5  5  5  3  5  5  5  5  5  5  5  5  5  5  5  5  5  5  5  5  5  5  8  5  5  3  5" in_spi_lem either "C7 runs" "open, 06, C7"
    ∷ line " 5  0  6  5  5  0  5  5  5  3  5  5  5  5  5  5  5  5  5  5  5  5  5  5  5  5  5  5  0  5  5  3  5" in_spi_lem either "02 runs" "open, 06, 02 00 10 00 00"
    ∷ line " 5  0  6  5  5  0  5  5  5  3  5  5  5  5  5  5  5  5  5  5  5  5  5  5  5  5  5  5  8  5  5  3  5" in_spi_lem either "A5 runs" "06, A5 00 08 00"
    ∷ line " 5  0  6  5  5  0  5  5  5  3  5  5  5  5  5  5  5  5  5  5  5  5  5  5  5  5  5  5  8  5  5  3  5" in_spi_lem either "85 runs" "06, 85"
    ∷ line " 5  0  6  5  5  0  5  5  5  3  5  5  5  5  5  5  5  5  5  5  5  5  5  5  5  5  5  5  8  5  5  3  5" in_spi_lem either "01 runs" "06, 01 00 00"
    ∷ line " 5  0  0  5  5  0  5  5  5  3  5  5  5  5  5  5  5  5  5  5  5  5  5  5  5  5  5  5  8  5  5  3  5" in_spi_lem either "E8 runs, reset enabled" "06, E8 00*6, 66"
    -- the frames of 20, D8, 02 and 32 go to 001000
    ∷ line " 0  0  6  0  0  0  0  0  0  3  0  0  7  0  0  0  8  8  8  8  7  8  8  8  8  8  8  8  8  0  0  3  7" in_spi_lem old "20 suspended" "open, 06, 20 00 10 00, B0"
    ∷ line " 0  0  6  0  0  0  0  0  0  3  0  0  0  0  0  0  8  8  8  0  0  8  8  8  8  8  8  8  8  0  0  3  0" in_spi_lem either "20 suspended elsewhere, IOC 1" "open, 06, 01 00 02, completion, 06, 20 00 20 00, B0"
    ∷ line " 0  0  6  0  0  0  0  0  0  3  0  0  0  0  0  0  8  8  8  8  8  8  8  8  8  8  8  8  8  0  0  3  0" in_spi_lem either "D8 suspended, IOC 1, WEL 0" "open, 06, 01 00 02, completion, 06, D8 00 10 00, B0, 04"
    ∷ line " 0  0  6  0  0  0  0  0  0  3  0  0  0  0  0  0  8  8  8  8  8  8  8  8  8  8  8  8  8  0  0  3  0" in_spi_lem either "02 suspended, IOC 1, WEL 0" "open, 06, 01 00 02, completion, 06, 02 00 10 00 00, B0, 04"
    ∷ line " 0  0  6  0  0  0  0  0  0  3  0  0  0  0  0  0  0  0  8  8  8  8  8  8  8  8  8  8  8  0  0  3  0" in_spi_lem either "32 suspended elsewhere, IOC 1" "open, 06, 01 00 02, completion, 06, 32 00 20 00 00, B0"
    ∷ line " 5  0  6  5  5  0  5  5  5  3  5  5  5  5  5  5  5  5  5  5  5  5  5  5  5  5  5  5  8  5  5  3  5" in_spi_lem either "02 runs beside a suspended 20" "open, 06, 20 00 20 00, B0, 02 00 10 00 00"
    ∷ line " 5  0  6  5  5  0  5  5  5  3  5  5  5  5  5  5  5  5  5  5  5  5  5  5  5  5  5  5  8  5  5  3  5" in_spi_lem either "20 runs beside a suspended 02" "open, 06, 02 00 20 00 00, B0, 20 00 10 00"
    ∷ line " 0  0  6  3  0  0  0  0  3  0  3  0  3  0  0  0  9  9  9  9  3  9  9  9  9  9  9  9  8  8  0  0  3" in_sqi_lem either "SQI" "38"
    ∷ line " 2  2  2  2  2  4  4  4  2  4  3  4  3  4  2  2  4  4  2  4  3  4  2  4  4  4  2  2  2  2  4  4  3" (shorter in_sqi_lem) either "SQI" "38"
    ∷ line " 4  4  4  3  4  4  4  4  3  4  3  4  3  4  4  4  4  4  4  9  3  9  4  4  4  4  4  4  4  4  4  4  3" (longer in_sqi_lem) either "SQI" "38"
    ∷ line " 0  0  6  3  0  4  4  4  3  0  3  4  3  4  0  0  9  9  9  9  3  9  9  9  9  9  9  9  8  8  0  0  3" in_spi_lem either "SQI" "38"
    ∷ line " 0  0  6  3  0  0  0  0  3  0  3  0  3  0  0  0  0  0  0  0  3  0  0  0  0  0  0  0  8  8  0  0  3" in_sqi_lem either "SQI, IOC 1, WEL 1, no lock" "open, 06, 01 00 02, completion, 06, 38"
    ∷ line " 5  0  6  3  5  0  5  5  3  5  3  5  3  5  5  5  5  5  5  5  3  5  5  5  5  5  5  5  8  5  5  5  3" in_sqi_lem either "SQI, C7 runs" "open, 06, 38, C7"
    ∷ []

-- ---- the statement

-- the numbers that a chip gives to frames
abbrev pub numbers_on : State → List (List ℕ) → List ℕ
numbers_on s fs = map (λ f. (step s (send f)).number) fs

pub record NumbersByOpcode : Type 0 where
  pub hold : Each (λ l. Each (λ p. numbers_on (state_after (new_state p) l.start) l.tried ≡ l.numbers) l.parts) numbers_by_opcode
  pub whole : length numbers_by_opcode ≡ 43
