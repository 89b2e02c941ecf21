-- A row of text: bytes go behind those that are there, and what finds no room in 80 bytes is dropped.
use Rattle.std.specs.Prelude.{ℕ, zero, suc, ◌+◌, ◌/◌, ◌%◌, List, [], ◌∷◌, ◌++◌, ltb, set, replicate}
use Rattle.rules.specs.Words.{pick}
use Rattle.writing.specs.declared.Row.{Row}

-- ---- rows

unfoldable pub blank : Row
blank = record { text = replicate 80 0; length = 0 }

-- one byte more
unfoldable pub push : Row → ℕ → Row
push r b = pick (ltb r.length 80) (record { text = set r.text r.length b; length = r.length + 1 }) r

-- a text behind what is there
unfoldable pub put : Row → List ℕ → Row
put r [] = r
put r (b ∷ t) = put (push r b) t

-- the row of a text
abbrev pub row : List ℕ → Row
row t = put blank t

-- ---- numbers

-- n blanks
unfoldable pub blanks : ℕ → List ℕ
blanks n = replicate n 0x20

-- the decimal digits of n, the highest first, k of them at most; no zero leads
unfoldable pub digits : ℕ → ℕ → List ℕ
digits zero n = []
digits (suc k) n = pick (ltb n 10) ((0x30 + n) ∷ []) (digits k (n / 10) ++ ((0x30 + n % 10) ∷ []))

-- a number below 10 ^ 20, as every one of 64 bits is
abbrev pub decimal : ℕ → List ℕ
decimal n = digits 20 n

-- 0 to 9, A to F
unfoldable pub hex_digit : ℕ → ℕ
hex_digit d = pick (ltb d 10) (0x30 + d) (0x37 + d)

-- the k lowest hexadecimal digits of n, the highest first
unfoldable pub hex : ℕ → ℕ → List ℕ
hex zero n = []
hex (suc k) n = hex k (n / 16) ++ (hex_digit (n % 16) ∷ [])
