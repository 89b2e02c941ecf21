-- Bits, choices, ranges of places and lent memory: the words that the other files use.
use Rattle.std.specs.Prelude.{ℕ, ◌+◌, ◌/◌, ◌%◌, ◌^◌, min, max, Bool, true, false, ◌&&◌, ◌||◌, List, [], ◌∷◌, eqb, ltb, leb, length, get_or}
use Rattle.rules.specs.declared.Range.{Range}

-- bit n of x
unfoldable pub bit : ℕ → ℕ → Bool
bit n x = eqb (x / 2 ^ n % 2) 1

-- a flag as a number
abbrev pub num : Bool → ℕ
num true = 1
num false = 0

-- a where the test holds, else b
abbrev pub pick {ℓ} : {A : Type ℓ} → Bool → A → A → A
pick true a b = a
pick false a b = b

-- x is one of the numbers
abbrev pub one_of : ℕ → List ℕ → Bool
one_of x [] = false
one_of x (n ∷ ns) = eqb x n || one_of x ns

-- the test holds at each entry
abbrev pub every {ℓ} : {A : Type ℓ} → (A → Bool) → List A → Bool
every t [] = true
every t (x ∷ xs) = t x && every t xs

-- the statement holds of each entry
infixr 20 ◌next◌
pub data Each {A : Type 0} (P : A → Type 0) : List A → Type 0 where
  end : Each P []
  ◌next◌ : {x : A} {xs : List A} → P x → Each P xs → Each P (x ∷ xs)

-- the places from s on, n of them
abbrev pub range : ℕ → ℕ → Range
range s n = record { start = s; size = n }

abbrev pub nowhere : Range
nowhere = range 0 0

-- the place a lies in the range
unfoldable pub holds : Range → ℕ → Bool
holds r a = leb r.start a && ltb a (r.start + r.size)

-- some place lies in both ranges
unfoldable pub overlap : Range → Range → Bool
overlap r s = ltb (max r.start s.start) (min (r.start + r.size) (s.start + s.size))

-- memory that a caller lends: how many bytes, and the byte at each place (0 past the end)
pub record Lent : Type 0 where
  pub size : ℕ
  pub byte : ℕ → ℕ

-- a slice of bytes, lent
abbrev pub lent : List ℕ → Lent
lent l = record { size = length l; byte = λ i. get_or l i 0 }

-- n lent bytes that hold what f says
abbrev pub written : ℕ → (ℕ → ℕ) → Lent
written n f = record { size = n; byte = λ i. pick (ltb i n) (f i) 0 }

abbrev pub unlent : Lent
unlent = record { size = 0; byte = λ i. 0 }
