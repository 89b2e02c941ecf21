-- 02, W-203: when a file is right, and the chip in it. "15 for a wrong mark, sum, page number, code, .. or register that breaks the well-formed rules." Of the flags
-- nothing is asked: by W-204 bit 7 is the part.
use Rattle.std.specs.Prelude.{ℕ, zero, suc, ◌+◌, ◌*◌, Bool, true, ◌&&◌, List, eqb, leb, length, get_or, take, drop}
use Prim.Native.String.{String}
use Rattle.rules.specs.declared.Chip.{Chip}
use Rattle.rules.specs.declared.Locks.{Locks}
use Rattle.rules.specs.declared.Rest.{Rest}
use Rattle.rules.specs.declared.Work.TheVariants.{Nothing}
use Rattle.rules.specs.Texts.{ascii}
use Rattle.rules.specs.Bursts.{last_burst, burst_of}
use Rattle.rules.specs.Programs.{blank}
use Rattle.rules.specs.Fields.{locks_of, works_of, rest_of, chip_of, flags_in}
use Rattle.rules.specs.WellFormed.{locks_right}
use Rattle.image.specs.Form.{number, sum, joined, file_size_lem}

-- ---- the places in a file

-- n bytes from a place on
abbrev pub part : List ℕ → ℕ → ℕ → List ℕ
part l at n = take n (drop at l)

-- RG stands at 0, SI behind its 18 bytes, the pages behind SI's 2,052: each has 262
abbrev pub security_place : ℕ
security_place = 18

abbrev pub page_place : ℕ → ℕ
page_place n = 2_070 + n * 262

-- ---- a record

-- the mark, the sum and the body of the record at a place, whose body has n bytes
abbrev pub mark_in : List ℕ → ℕ → ℕ
mark_in l at = number (part l at 2)

abbrev pub sum_in : List ℕ → ℕ → ℕ → ℕ
sum_in l at n = number (part l (at + 2 + n) 2)

abbrev pub body_in : List ℕ → ℕ → ℕ → List ℕ
body_in l at n = part l (at + 2) n

-- no "wrong mark, sum"
unfoldable pub record_right : String → List ℕ → ℕ → ℕ → Bool
record_right mark l at n = eqb (mark_in l at) (number (ascii mark)) && eqb (sum_in l at n) (sum (body_in l at n))

-- ---- what the records hold

abbrev pub locks_in : List ℕ → Locks
locks_in l = locks_of (number (part l 2 6)) (number (part l 8 6))

abbrev pub flags_byte_in : List ℕ → ℕ
flags_byte_in l = get_or l 14 0

abbrev pub burst_byte_in : List ℕ → ℕ
burst_byte_in l = get_or l 15 0

abbrev pub number_in : List ℕ → ℕ → ℕ
number_in l n = number (part l (page_place n + 2) 2)

abbrev pub page_in : List ℕ → ℕ → List ℕ
page_in l n = part l (page_place n + 4) 256

-- ---- a right file

-- no wrong "page number": the n-th of them is n
unfoldable pub page_right_lem : List ℕ → ℕ → Bool
page_right_lem l n = record_right "PG" l (page_place n) 258 && eqb (number_in l n) n

-- the test holds at 0 to n - 1
unfoldable pub first_hold : (ℕ → Bool) → ℕ → Bool
first_hold t zero = true
first_hold t (suc n) = first_hold t n && t n

-- no wrong "code .. or register that breaks the well-formed rules"
unfoldable pub registers_right : List ℕ → Bool
registers_right l = leb (burst_byte_in l) last_burst && locks_right (locks_in l)

unfoldable pub right : List ℕ → Bool
right l =
    eqb (length l) file_size_lem && record_right "RG" l 0 14 && registers_right l && record_right "SI" l security_place 2_048
    && first_hold (page_right_lem l) 8_192

-- ---- the chip in a file: idle, nothing suspended, its buffer FF; the flags as in the file, WEL and the reset enable too, and the part

unfoldable pub rest_in : List ℕ → Rest
rest_in l = rest_of (locks_in l) (works_of Nothing Nothing) (flags_in (flags_byte_in l)) (burst_of (burst_byte_in l))

unfoldable pub chip_in : List ℕ → Chip
chip_in l = chip_of blank (rest_in l)

abbrev pub security_in : List ℕ → List ℕ
security_in l = body_in l security_place 2_048

unfoldable pub array_in : List ℕ → List ℕ
array_in l = joined (page_in l) 8_192
