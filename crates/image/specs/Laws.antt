-- 02, W-203: "Reading gives back the chip that was written; writing what was read gives the same bytes." Proved in proofs/Laws.
use Rattle.std.specs.Prelude.{ℕ, ◌<◌, ◌≡◌, true, List, length, get_or}
use Rattle.rules.specs.declared.Chip.{Chip}
use Rattle.rules.specs.Blocks.{array_size_lem, security_size_lem}
use Rattle.rules.specs.WellFormed.{well_formed}
use Rattle.image.specs.declared.Received.{Received}
use Rattle.image.specs.Form.{file_of, file_size_lem}
use Rattle.image.specs.Files.{right, chip_in, array_in, security_in}
use Rattle.image.specs.Promises.{idle, Posted, posted_number, WritePromise, ReadPromise}

-- what the type of a lent byte says
abbrev pub OfBytes : List ℕ → Type 0
OfBytes l = (i : ℕ) → get_or l i 0 < 256

-- a whole idle chip; that a buffer has 256 bytes is in its type
pub record Whole (c : Chip) (array security : List ℕ) : Type 0 where
  pub buffer_size : length c.buffer ≡ 256
  pub formed : well_formed c ≡ true
  pub idles : idle c.rest ≡ true
  pub array_size : length array ≡ array_size_lem
  pub security_size : length security ≡ security_size_lem

-- "Reading gives back the chip that was written": its file is right, has its length, and the chip in it is this one
pub record ReadBack (c : Chip) (array security : List ℕ) : Type 0 where
  pub size : length (file_of c array security) ≡ file_size_lem
  pub is_right : right (file_of c array security) ≡ true
  pub same_chip : chip_in (file_of c array security) ≡ c
  pub same_array : array_in (file_of c array security) ≡ array
  pub same_security : security_in (file_of c array security) ≡ security

-- "writing what was read gives the same bytes": of a right file the chip in it is whole, and the file is its file
pub record WrittenAgain (l : List ℕ) : Type 0 where
  pub whole : Whole (chip_in l) (array_in l) (security_in l)
  pub same_file : file_of (chip_in l) (array_in l) (security_in l) ≡ l

-- a right file is the file of exactly one chip: of the one in it, and of no other
pub record FileOfOne (l : List ℕ) : Type 0 where
  pub one : WrittenAgain l
  pub no_other : (c : Chip) (array security : List ℕ) → Whole c array security → file_of c array security ≡ l → (c ≡ chip_in l) × ((array ≡ array_in l) × (security ≡ security_in l))

abbrev pub ReadingGivesBack : Type 0
ReadingGivesBack = (c : Chip) (array security : List ℕ) → Whole c array security → ReadBack c array security

abbrev pub WritingGivesTheSame : Type 0
WritingGivesTheSame = (l : List ℕ) → OfBytes l → right l ≡ true → WrittenAgain l

abbrev pub ExactlyOneChip : Type 0
ExactlyOneChip = (l : List ℕ) → OfBytes l → right l ≡ true → FileOfOne l

-- ---- the same of what the two functions guarantee

-- what was written is read into any memories of the right sizes, in place of any record
abbrev pub WrittenThenRead : Type 0
WrittenThenRead =
    (c d : Chip) (array security file file' : List ℕ) (r : Posted) (array₀ security₀ array' security' : List ℕ) (s : Received)
    → length c.buffer ≡ 256 → WritePromise c array security file r file' → posted_number r ≡ 0
    → length array₀ ≡ array_size_lem → length security₀ ≡ security_size_lem → ReadPromise d file' array₀ security₀ s array' security'
    → (posted_number s.answer ≡ 0) × ((s.chip ≡ c) × ((array' ≡ array) × (security' ≡ security)))

-- what was read is written into any buffer of the file's size
abbrev pub ReadThenWritten : Type 0
ReadThenWritten =
    (c : Chip) (file array security array' security' : List ℕ) (r : Received) (buffer buffer' : List ℕ) (s : Posted)
    → OfBytes file → ReadPromise c file array security r array' security' → posted_number r.answer ≡ 0
    → length buffer ≡ file_size_lem → WritePromise r.chip array' security' buffer s buffer'
    → (posted_number s ≡ 0) × (buffer' ≡ file)
