-- 02, W-203: what the two functions give back and leave. "Refusals: 1 for wrong lengths or, writing, a broken record; 14 for a busy or suspended chip; 15 for a
-- wrong" file. "A refusal leaves chip and buffer unchanged."
use Rattle.std.specs.Prelude.{ℕ, ◌≡◌, Bool, not, ◌&&◌, List, eqb, length, Result, Ok, Err}
use Rattle.rules.specs.declared.Chip.{Chip}
use Rattle.rules.specs.declared.Rest.{Rest}
use Rattle.rules.specs.Words.{pick}
use Rattle.rules.specs.Blocks.{array_size_lem, security_size_lem}
use Rattle.rules.specs.Works.{is_nothing}
use Rattle.rules.specs.WellFormed.{well_formed}
use Rattle.image.specs.declared.FileRefusal.{FileRefusal}
use Rattle.image.specs.declared.Received.{Received}
use Rattle.image.specs.Form.{file_of, file_size_lem}
use Rattle.image.specs.Files.{right, chip_in, array_in, security_in}

-- ---- the numbers

-- what came of writing or reading a file
abbrev pub Posted : Type 0
Posted = Result (Unit {0}) FileRefusal

abbrev pub posted_number : Posted → ℕ
posted_number (Ok done) = 0
posted_number (Err FileRefusal.Malformed) = 1
posted_number (Err FileRefusal.AtWork) = 14
posted_number (Err FileRefusal.WrongFile) = 15

-- ---- the conditions

-- array and Security ID have their sizes, and the file its own
unfoldable pub sizes_right : List ℕ → List ℕ → List ℕ → Bool
sizes_right array security file = eqb (length array) array_size_lem && eqb (length security) security_size_lem && eqb (length file) file_size_lem

-- nothing runs and nothing is suspended
unfoldable pub idle : Rest → Bool
idle r = is_nothing r.works.running && is_nothing r.works.suspended

-- ---- writing

-- the number, and what the lent buffer holds at the end
pub record Written : Type 0 where
  pub number : ℕ
  pub file : List ℕ

abbrev pub written_of : ℕ → List ℕ → Written
written_of n file = record { number = n; file = file }

unfoldable pub written : Chip → List ℕ → List ℕ → List ℕ → Written
written c array security file =
    pick (not (sizes_right array security file && well_formed c)) (written_of 1 file)
    (pick (not (idle c.rest)) (written_of 14 file)
    (written_of 0 (file_of c array security)))

pub record WritePromise (c : Chip) (array security file : List ℕ) (r : Posted) (file' : List ℕ) : Type 0 where
  pub outcome : written_of (posted_number r) file' ≡ written c array security file

-- ---- reading

-- the number, the record, and what the lent memories hold at the end
pub record Read : Type 0 where
  pub number : ℕ
  pub chip : Chip
  pub array : List ℕ
  pub security : List ℕ

abbrev pub read_of : ℕ → Chip → List ℕ → List ℕ → Read
read_of n c array security = record { number = n; chip = c; array = array; security = security }

-- the record that is replaced is not judged
unfoldable pub read : Chip → List ℕ → List ℕ → List ℕ → Read
read c file array security =
    pick (not (sizes_right array security file)) (read_of 1 c array security)
    (pick (not (right file)) (read_of 15 c array security)
    (read_of 0 (chip_in file) (array_in file) (security_in file)))

pub record ReadPromise (c : Chip) (file array security : List ℕ) (r : Received) (array' security' : List ℕ) : Type 0 where
  pub outcome : read_of (posted_number r.answer) r.chip array' security' ≡ read c file array security
