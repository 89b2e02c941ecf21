-- Bytes as text.
use Rattle.std.specs.Prelude.{ℕ, zero, suc, ◌+◌, ◌-◌, min, ◌&&◌, List, [], ◌∷◌, ◌++◌, eqb, ltb, leb, length, get_or}
use Rattle.rules.specs.Words.{pick}
use Rattle.rules.specs.Texts.{ascii}
use Rattle.writing.specs.Rows.{hex}

-- how many of at most `most` places from `from` on a list of size n has
abbrev pub within : ℕ → ℕ → ℕ → ℕ
within n from most = min (n - from) most

-- n bytes from the place `from` on, two hexadecimal digits each, a blank before each
unfoldable pub bytes : List ℕ → ℕ → ℕ → List ℕ
bytes l from zero = []
bytes l from (suc n) = bytes l from n ++ (0x20 ∷ hex 2 (get_or l (from + n) 0))

-- a byte whose mark is 0 is not known: ??
unfoldable pub known : ℕ → ℕ → List ℕ
known b mark = pick (eqb mark 0) (ascii "??") (hex 2 b)

-- the same of n bytes with their marks
unfoldable pub marked : List ℕ → List ℕ → ℕ → ℕ → List ℕ
marked l marks from zero = []
marked l marks from (suc n) = marked l marks from n ++ (0x20 ∷ known (get_or l (from + n) 0) (get_or marks (from + n) 0))

-- at most `most` bytes of a reply from a place on
abbrev pub part : List ℕ → List ℕ → ℕ → ℕ → List ℕ
part l marks from most = marked l marks from (within (min (length l) (length marks)) from most)

-- a byte as it is printed: a dot for what is no printable ASCII
unfoldable pub printed : ℕ → ℕ
printed b = pick (leb 0x20 b && ltb b 0x7F) b 0x2E

-- n bytes from the place `from` on, as they are printed
unfoldable pub letters : List ℕ → ℕ → ℕ → List ℕ
letters l from zero = []
letters l from (suc n) = letters l from n ++ (printed (get_or l (from + n) 0) ∷ [])
