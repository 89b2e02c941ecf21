-- 02, W-203, over bytes: what fulkibono_image_write and fulkibono_image_read give back and leave, in terms of the file's promises and the record's code.
-- The laws at the end are proved in proofs/Images.
use Rattle.std.specs.Prelude.{ℕ, ◌≡◌, List, eqb, length}
use Rattle.rules.specs.declared.Chip.{Chip}
use Rattle.rules.specs.declared.Rest.{Rest}
use Rattle.rules.specs.declared.Work.TheVariants.{Nothing}
use Rattle.rules.specs.Words.{pick}
use Rattle.rules.specs.Fields.{works_of, rest_of, chip_of}
use Rattle.rules.specs.Programs.{blank}
use Rattle.rules.specs.Commands.{new_chip}
use Rattle.image.specs.Promises.{Written, written_of, written, Read, read}
use Rattle.record_code.specs.Layout.{record_size, code, decode}
use Rattle.bench.specs.Refusals.{OfBytes}

-- ---- fulkibono_image_write: the number, and the lent buffer; nothing else is lent to be changed

-- a record's code is the chip that is written; bytes that are no code get refusal 1
unfoldable pub image_written : List ℕ → List ℕ → List ℕ → List ℕ → Written
image_written bytes array security file = pick (decode bytes).known (written (decode bytes).chip array security file) (written_of 1 file)

pub record WriteImagePromise (bytes array security file : List ℕ) (n : ℕ) (file' : List ℕ) : Type 0 where
  pub outcome : written_of n file' ≡ image_written bytes array security file

-- ---- fulkibono_image_read: the number, and the lent record and memories

pub record ImageRead : Type 0 where
  pub number : ℕ
  pub bytes : List ℕ
  pub array : List ℕ
  pub security : List ℕ

abbrev pub image_read_of : ℕ → List ℕ → List ℕ → List ℕ → ImageRead
image_read_of n bytes array security = record { number = n; bytes = bytes; array = array; security = security }

-- an idle chip, its buffer blank, with the registers, the flags and the burst of a record: what a file can hold
abbrev pub idle_of : Rest → Chip
idle_of r = chip_of blank (rest_of r.locks (works_of Nothing Nothing) r.flags r.burst)

-- done, the record's bytes become the code of the chip in the file; a refusal leaves them
abbrev pub replaced : List ℕ → Read → ImageRead
replaced bytes r = image_read_of r.number (pick (eqb r.number 0) (code r.chip) bytes) r.array r.security

-- the bytes that are replaced are not judged, and need be no record's code. The chip that `read` wants is what a refusal would leave: it is not looked at here.
unfoldable pub image_read : List ℕ → List ℕ → List ℕ → List ℕ → ImageRead
image_read file bytes array security =
    pick (eqb (length bytes) record_size) (replaced bytes (read new_chip file array security)) (image_read_of 1 bytes array security)

pub record ReadImagePromise (file bytes array security : List ℕ) (g : ImageRead) : Type 0 where
  pub outcome : g ≡ image_read file bytes array security

-- ---- "Reading gives back the chip that was written; writing what was read gives the same bytes."

-- what is written, done, and then read into any lent bytes of the right lengths, is the same record, array and Security ID
abbrev pub ReadingGivesBackBytes : Type 0
ReadingGivesBackBytes =
    (bytes array security file file' bytes₁ array₁ security₁ : List ℕ) (g : ImageRead) → OfBytes bytes
    → length bytes₁ ≡ length bytes → length array₁ ≡ length array → length security₁ ≡ length security
    → WriteImagePromise bytes array security file 0 file' → ReadImagePromise file' bytes₁ array₁ security₁ g
    → g ≡ image_read_of 0 bytes array security

-- what is read, done, and then written into any lent buffer of the right length, is the same file
abbrev pub WritingGivesTheSameBytes : Type 0
WritingGivesTheSameBytes =
    (file bytes array security bytes₁ array₁ security₁ file₁ file₂ : List ℕ) (n : ℕ) → OfBytes file → length file₁ ≡ length file
    → ReadImagePromise file bytes array security (image_read_of 0 bytes₁ array₁ security₁) → WriteImagePromise bytes₁ array₁ security₁ file₁ n file₂
    → written_of n file₂ ≡ written_of 0 file

-- ---- "A refusal leaves chip and buffer unchanged."

abbrev pub RefusalsLeaveTheBuffer : Type 0
RefusalsLeaveTheBuffer =
    (bytes array security file file' : List ℕ) (n : ℕ) → WriteImagePromise bytes array security file n file' → (n ≡ 0 → ⊥) → file' ≡ file

abbrev pub RefusalsLeaveTheChip : Type 0
RefusalsLeaveTheChip =
    (file bytes array security : List ℕ) (g : ImageRead) → ReadImagePromise file bytes array security g → (g.number ≡ 0 → ⊥)
    → g ≡ image_read_of g.number bytes array security
