-- A chip record as 320 bytes: what crosses the boundary to other languages, fit to be stored. Numbers stand low byte first.
use Rattle.std.specs.Prelude.{ℕ, zero, suc, ◌+◌, ◌*◌, ◌/◌, ◌%◌, ◌^◌, ◌≤◌, ◌<◌, ◌≡◌, Bool, true, false, ◌&&◌, List, [], ◌∷◌, ◌++◌, eqb, leb, length, get_or, take, drop}
use Prim.Native.String.{String, compare}
use Rattle.std.proofs.Math.Dec.{compare_is_eq}
use Rattle.rules.specs.declared.Chip.{Chip}
use Rattle.rules.specs.declared.Rest.{Rest}
use Rattle.rules.specs.Bursts.{burst_byte, last_burst, burst_of}
use Rattle.rules.specs.Fields.{locks_of, works_of, rest_of, chip_of, flags_number, flags_in}
use Rattle.rules.specs.Words.{pick}
use Rattle.rules.specs.Commands.{new_chip, new_old_chip}
use Rattle.numbering.specs.Numbering.{kind_of, number_of, work_right, work_of}

-- ---- the layout

-- the fields in their order, with the bytes that each takes
abbrev pub layout : List (String × ℕ)
layout =
    ("page", 256)
    ∷ ("protection", 8)
    ∷ ("permanent", 8)
    ∷ ("running number", 8)
    ∷ ("suspended number", 8)
    ∷ ("running kind", 1)
    ∷ ("suspended kind", 1)
    ∷ ("flags", 1)
    ∷ ("burst", 1)
    ∷ ("reserved", 28)
    ∷ []

-- the bytes of a field, those before it, and those of all fields
abbrev pub size_in : List (String × ℕ) → String → ℕ
size_in [] f = 0
size_in (e ∷ es) f = pick (compare_is_eq (compare e.0 f)) e.1 (size_in es f)

abbrev pub place_in : List (String × ℕ) → String → ℕ
place_in [] f = 0
place_in (e ∷ es) f = pick (compare_is_eq (compare e.0 f)) 0 (e.1 + place_in es f)

abbrev pub total : List (String × ℕ) → ℕ
total [] = 0
total (e ∷ es) = e.1 + total es

abbrev pub size_of : String → ℕ
size_of = size_in layout

abbrev pub place_of : String → ℕ
place_of = place_in layout

abbrev pub record_size : ℕ
record_size = total layout

-- ---- numbers in bytes

-- the n lowest bytes of x
unfoldable pub bytes : ℕ → ℕ → List ℕ
bytes zero x = []
bytes (suc n) x = x % 256 ∷ bytes n (x / 256)

-- the number in the n bytes from `at` on
abbrev pub number_at : List ℕ → ℕ → ℕ → ℕ
number_at l at zero = 0
number_at l at (suc n) = get_or l at 0 + 256 * number_at l (at + 1) n

-- the same of eight bytes, written out: what one load gives
abbrev pub word : List ℕ → ℕ → ℕ
word l at =
    get_or l at 0 + 256 * (get_or l (at + 1) 0 + 256 * (get_or l (at + 2) 0 + 256 * (get_or l (at + 3) 0
    + 256 * (get_or l (at + 4) 0 + 256 * (get_or l (at + 5) 0 + 256 * (get_or l (at + 6) 0 + 256 * (get_or l (at + 7) 0 + 256 * 0)))))))

-- the bytes of a field that holds x
abbrev pub field_of : String → ℕ → List ℕ
field_of f x = bytes (size_of f) x

-- the number in a field
abbrev pub field_in : List ℕ → String → ℕ
field_in l f = number_at l (place_of f) (size_of f)

-- ---- the code of a record

-- what stands behind the page
unfoldable pub rest_code : Rest → List ℕ
rest_code r =
    field_of "protection" r.locks.protection
    ++ field_of "permanent" r.locks.permanent
    ++ field_of "running number" (number_of r.works.running)
    ++ field_of "suspended number" (number_of r.works.suspended)
    ++ field_of "running kind" (kind_of r.works.running)
    ++ field_of "suspended kind" (kind_of r.works.suspended)
    ++ field_of "flags" (flags_number r.flags)
    ++ field_of "burst" (burst_byte r.burst)
    ++ field_of "reserved" 0

-- 0 in the reserved bytes
abbrev pub NothingReserved : List ℕ → Type 0
NothingReserved l = drop (place_of "reserved") l ≡ field_of "reserved" 0

unfoldable pub code : Chip → List ℕ
code c = c.buffer ++ rest_code c.rest

-- ---- the record of a code

-- two works that are right, a byte that sets a burst, and 0 in the reserved bytes; every byte is some flags'
unfoldable pub is_code : List ℕ → Bool
is_code l =
    eqb (length l) record_size
    && (work_right (field_in l "running kind") (field_in l "running number")
    && work_right (field_in l "suspended kind") (field_in l "suspended number")
    && leb (field_in l "burst") last_burst
    && eqb (field_in l "reserved") 0)

unfoldable pub rest_in : List ℕ → Rest
rest_in l =
    rest_of
    (locks_of (field_in l "protection") (field_in l "permanent"))
    (works_of (work_of (field_in l "running kind") (field_in l "running number")) (work_of (field_in l "suspended kind") (field_in l "suspended number")))
    (flags_in (field_in l "flags"))
    (burst_of (field_in l "burst"))

unfoldable pub chip_in : List ℕ → Chip
chip_in l = chip_of (take (size_of "page") l) (rest_in l)

-- whether the bytes are some record's code, and if so of which
pub record Decoded : Type 0 where
  pub known : Bool
  pub chip : Chip

abbrev pub decode : List ℕ → Decoded
decode l = record { known = is_code l; chip = chip_in l }

-- what the Rattle types hold a record to: numbers of 64 bits, 256 buffer bytes
pub record TypedRest (r : Rest) : Type 0 where
  pub protection : r.locks.protection < 2 ^ 64
  pub permanent : r.locks.permanent < 2 ^ 64
  pub running : number_of r.works.running < 2 ^ 64
  pub suspended : number_of r.works.suspended < 2 ^ 64

pub record Typed (c : Chip) : Type 0 where
  pub buffer : length c.buffer ≡ 256
  pub rest : TypedRest c.rest

-- ---- the part, 02, W-204

-- a stored record with 0 at the part's place, the highest bit of the flags, is an old part
pub record PartIn (l : List ℕ) : Type 0 where
  pub old_part_lem : field_in l "flags" < 128 → (rest_in l).flags.ba ≡ false
  pub ba_part_lem : 128 ≤ field_in l "flags" → field_in l "flags" < 256 → (rest_in l).flags.ba ≡ true

-- a new chip of the old part: the protection register and 0 in every other place; a BA has IOC and the part besides
pub record NewCodes : Type 0 where
  pub old_chip : rest_code new_old_chip.rest ≡ bytes 8 0x5555_FFFF_FFFF ++ bytes 56 0
  pub ba_chip : rest_code new_chip.rest ≡ bytes 8 0x5555_FFFF_FFFF ++ bytes 26 0 ++ 0x84 ∷ bytes 29 0
