-- What a script expects of a line, and when that is not met.
-- A number is expected after `!`: it is met by that number alone; where none is, a script may ask that no refusal comes. Bytes are expected after `=`: they are
-- met by a reply of as many bytes in which no place differs, and `= kept` by reply and marks that hold what they held before.
-- `??` expects any byte; a byte is not met by one that the chip calls unknown (mark 0); `~` and a byte is met by that byte, called unknown.
use Rattle.std.specs.Prelude.{ℕ, ◌+◌, ◌%◌, ◌≤◌, ◌<◌, min, ◌≡◌, Bool, true, false, not, ◌&&◌, ◌||◌, List, eqb, ltb, length, get_or, Option, Some, None, is_none}
use Rattle.rules.specs.Words.{num, every}
use Rattle.expecting.specs.declared.Expectation.{Expectation}
use Rattle.expecting.specs.declared.Expected.{Expected}
use Rattle.expecting.specs.declared.Verdict.{Verdict}

-- place i differs: a byte is expected there (known is not 0), and the chip's byte is another, or its mark does not say what is expected (2: unknown)
unfoldable pub differs : List ℕ → List ℕ → List ℕ → List ℕ → ℕ → Bool
differs reply marks expected known i =
    not (eqb (get_or known i 0) 0)
    && (not (eqb (get_or reply i 0) (get_or expected i 0))
    || eqb (get_or known i 0) 2 && not (eqb (get_or marks i 0) 0)
    || not (eqb (get_or known i 0) 2) && eqb (get_or marks i 0) 0)

-- r is the first place below n at which the test holds, or n where there is none
pub record First (test : ℕ → Bool) (n r : ℕ) : Type 0 where
  pub within : r ≤ n
  pub before : (i : ℕ) → i < r → test i ≡ false
  pub there : r < n → test r ≡ true

-- another number came than the expected one
abbrev pub other_number : Option ℕ → ℕ → Bool
other_number None given = false
other_number (Some n) given = not (eqb n given)

-- as many bytes are expected as did not come
abbrev pub other_length : Expected → ℕ → Bool
other_length Expected.Nothing replied = false
other_length (Expected.Bytes count) replied = not (eqb replied count)
other_length Expected.Kept replied = false

-- `= kept` stands
abbrev pub is_kept : Expected → Bool
is_kept Expected.Nothing = false
is_kept (Expected.Bytes count) = false
is_kept Expected.Kept = true

-- how many places are compared
abbrev pub compared : Expected → ℕ → ℕ
compared Expected.Nothing replied = 0
compared (Expected.Bytes count) replied = min replied count
compared Expected.Kept replied = 0

-- what reply and marks hold before each frame
abbrev pub untouched : List ℕ → List ℕ → Bool
untouched reply marks = every (λ x. eqb x 0x5A) reply && every (λ x. eqb x 7) marks

-- what is not met: the number, that no refusal comes, the reply's length, that it is kept, and the first place that differs (that after the last one
-- compared where none does)
pub record Judged (e : Expectation) (strict : Bool) (given : ℕ) (reply marks expected known : List ℕ) (v : Verdict) : Type 0 where
  pub number_differs : v.number ≡ other_number e.number given
  pub refused : v.strict ≡ (strict && is_none e.number && not (eqb given 0))
  pub length_differs : v.length ≡ other_length e.reply (length reply)
  pub changed : v.kept ≡ (is_kept e.reply && not (untouched reply marks))
  pub places : v.compared ≡ compared e.reply (length reply)
  pub first : First (differs reply marks expected known) (compared e.reply (length reply)) v.place

-- ---- a memory

-- the place holds another byte than the i-th expected one
unfoldable pub unheld_at : List ℕ → ℕ → List ℕ → List ℕ → ℕ → Bool
unheld_at memory place expected known i = not (eqb (get_or known i 0) 0) && not (eqb (get_or memory place 0) (get_or expected i 0))

-- the expected bytes come over and over; where there are none, nothing is expected
unfoldable pub unheld : List ℕ → ℕ → List ℕ → List ℕ → ℕ → ℕ → Bool
unheld memory from expected known count i = not (eqb count 0) && unheld_at memory (from + i) expected known (i % count)

-- ---- how many of the two expectations of a line are not met

unfoldable pub unmet : Verdict → ℕ
unmet v = num (v.number || v.strict) + num (v.length || v.kept || ltb v.place v.compared)
