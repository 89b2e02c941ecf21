-- 02, W-203, from a script: an image of the bench's chip, and the bench's chip from an image, with as much of the memories as is lent.
use Rattle.std.specs.Prelude.{ℕ, min, ◌≡◌, false, List, ◌++◌, length, drop, None}
use Rattle.rules.specs.declared.Chip.{Chip}
use Rattle.standing.specs.declared.Playing.{Playing}
use Rattle.standing.specs.Benches.{front, bench_of, with_bench}
use Rattle.image.specs.Faults.{first_fault}
use Rattle.image.specs.Promises.{Read, written_of, written, read}
use Rattle.posting.specs.declared.Carried.{Carried}
use Rattle.posting.specs.Posts.{judged, report_of, carried_of}

-- ---- saving

pub record Saved (p : Playing) (array security file : List ℕ) (r : ℕ) (file' : List ℕ) : Type 0 where
  pub outcome : written_of r file' ≡ written p.bench.chip (front p.bench.array array) (front p.bench.security security) file

-- ---- loading

-- the bench with another record
abbrev pub with_chip : Playing → Chip → Playing
with_chip p c =
    with_bench p (bench_of c p.bench.tally p.bench.line p.bench.array p.bench.security p.bench.full p.bench.strict)

-- what reading the file gives, with as much of the memories as is lent
abbrev pub read_lent : Playing → List ℕ → List ℕ → List ℕ → Read
read_lent p array security file = read p.bench.chip file (front p.bench.array array) (front p.bench.security security)

-- record, array and Security ID are those of the file, or stay: what is not lent stays always
pub record Loaded (p : Playing) (array security file : List ℕ) (r : Carried) (array' security' : List ℕ) : Type 0 where
  pub outcome : r ≡ carried_of (judged (with_chip p (read_lent p array security file).chip) None (read_lent p array security file).number false) (report_of None (length file) (first_fault file) None)
  pub array_is : array' ≡ (read_lent p array security file).array ++ drop (min p.bench.array (length array)) array
  pub security_is : security' ≡ (read_lent p array security file).security ++ drop (min p.bench.security (length security)) security
