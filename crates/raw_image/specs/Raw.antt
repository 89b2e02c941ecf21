-- The array alone as a file: the answer to its size, an array that becomes it, and in what the two differ.
use Rattle.std.specs.Prelude.{ℕ, zero, suc, ◌+◌, ◌<◌, ◌≡◌, Bool, not, ◌&&◌, List, eqb, length, get_or, Option, None, Some, IsNone, IfSome, Ok, Err}
use Rattle.rules.specs.Words.{num, pick}
use Rattle.rules.specs.Blocks.{array_size_lem}
use Rattle.image.specs.declared.FileRefusal.{FileRefusal}
use Rattle.image.specs.Promises.{Posted, posted_number}
use Rattle.raw_image.specs.declared.Difference.{Difference}

-- both have the array's size
unfoldable pub whole : ℕ → ℕ → Bool
whole array file = eqb array array_size_lem && eqb file array_size_lem

unfoldable pub raw_answer : ℕ → ℕ → Posted
raw_answer array file = pick (whole array file) (Ok tt) (Err FileRefusal.Malformed)

-- 1 where an array or a file is not of the array's size, else 0
abbrev pub raw_number : ℕ → ℕ → ℕ
raw_number array file = posted_number (raw_answer array file)

-- ---- reading

-- all of the array becomes the file, or nothing of it
pub record LoadPromise (array file : List ℕ) (answer : Posted) (array' : List ℕ) : Type 0 where
  pub answer_is : answer ≡ raw_answer (length array) (length file)
  pub array_is : array' ≡ pick (whole (length array) (length file)) file array

-- ---- comparing

abbrev pub difference_of : ℕ → ℕ → ℕ → ℕ → Difference
difference_of n i f a = record { count = n; place = i; file = f; array = a }

-- one byte more differs: the first is kept, and all are counted
abbrev pub one_more : ℕ → ℕ → ℕ → Option Difference → Difference
one_more i f a None = difference_of 1 i f a
one_more i f a (Some d) = difference_of (d.count + 1) d.place d.file d.array

-- with the bytes at the place i
unfoldable pub differs_at : ℕ → ℕ → ℕ → Option Difference → Option Difference
differs_at i f a d = pick (eqb f a) d (Some (one_more i f a d))

-- of the first n bytes
unfoldable pub compared : ℕ → List ℕ → List ℕ → Option Difference
compared zero file array = None
compared (suc n) file array = differs_at n (get_or file n 0) (get_or array n 0) (compared n file array)

-- what it tells: how many differ, and the first place at which the two differ, with both bytes there; proved in proofs/Tells
unfoldable pub differing : ℕ → List ℕ → List ℕ → ℕ
differing zero file array = 0
differing (suc n) file array = differing n file array + num (not (eqb (get_or file n 0) (get_or array n 0)))

abbrev pub count_in : Option Difference → ℕ
count_in None = 0
count_in (Some d) = d.count

pub record First (n : ℕ) (file array : List ℕ) (d : Difference) : Type 0 where
  pub some : 0 < d.count
  pub before : (i : ℕ) → i < d.place → get_or file i 0 ≡ get_or array i 0
  pub within : d.place < n
  pub file_byte : d.file ≡ get_or file d.place 0
  pub array_byte : d.array ≡ get_or array d.place 0
  pub apart : d.file ≡ d.array → ⊥

pub record Tells (n : ℕ) (file array : List ℕ) (d : Option Difference) : Type 0 where
  pub all : count_in d ≡ differing n file array
  pub none : IsNone d → (i : ℕ) → i < n → get_or file i 0 ≡ get_or array i 0
  pub first : IfSome d (First n file array)

-- an array or a file of another size is not compared
unfoldable pub compare_raw : List ℕ → List ℕ → Option Difference
compare_raw array file = pick (whole (length array) (length file)) (compared array_size_lem file array) None
