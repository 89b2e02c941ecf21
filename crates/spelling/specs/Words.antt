-- Words: blanks, signs, digits, numbers, and a word by its bytes.
use Rattle.std.specs.Prelude.{ℕ, ◌+◌, ◌-◌, ◌*◌, ◌%◌, ◌^◌, min, Bool, true, ◌&&◌, ◌||◌, List, [], ◌∷◌, eqb, ltb}
use Rattle.rules.specs.Words.{pick}
use Rattle.spelling.specs.declared.Word.{Word}

-- ---- bytes

-- space, tab, vertical tab, form feed
abbrev pub blank : ℕ → Bool
blank b = eqb b 0x20 || (eqb b 0x09 || (eqb b 0x0B || eqb b 0x0C))

-- LF, CR
abbrev pub line_end : ℕ → Bool
line_end b = eqb b 0x0A || eqb b 0x0D

-- one of the signs > = ! / * ~
abbrev pub sign : ℕ → Bool
sign b = eqb b 0x3E || (eqb b 0x3D || (eqb b 0x21 || (eqb b 0x2F || (eqb b 0x2A || eqb b 0x7E))))

-- #, a sign, a blank or a line's end
abbrev pub ends_words : ℕ → Bool
ends_words b = eqb b 0x23 || (sign b || (blank b || line_end b))

-- what a hex digit stands for: 0 to 9, A to F, a to f; 16 for any other byte
unfoldable pub digit_of : ℕ → ℕ
digit_of b =
    pick (ltb b 0x30) 16
    (pick (ltb b 0x3A) (b - 0x30)
    (pick (ltb b 0x41) 16
    (pick (ltb b 0x47) (b - 0x37)
    (pick (ltb b 0x61) 16
    (pick (ltb b 0x67) (b - 0x57) 16)))))

-- ---- a word, by its last byte

-- the largest number, and the largest column
unfoldable pub most : ℕ
most = 2 ^ 64 - 1

-- one more, as far as numbers go
unfoldable pub one_more_lem : ℕ → ℕ
one_more_lem n = min (n + 1) most

-- one decimal digit more
unfoldable pub tens_of : ℕ → ℕ → ℕ
tens_of n d = min (n * 10 + d) most

-- a word of at most seven bytes as one number: its bytes in base 256, after a 1
abbrev pub key_from : ℕ → List ℕ → ℕ
key_from k [] = k
key_from k (b ∷ bs) = key_from (k * 256 + b) bs

abbrev pub key : List ℕ → ℕ
key bs = key_from 1 bs

-- the key with one byte more
abbrev pub key_with : ℕ → ℕ → ℕ
key_with k b = k % 2 ^ 56 * 256 + b

-- no word: at column 0 where none has begun, at its column where a remark begins
abbrev pub no_word : ℕ → Word
no_word column = record { length = 0; column = column; key = 1; decimal = true; number = 0; hexadecimal = true; hex = 0 }

-- the word with the byte b at its end, which stands at that column. What its fields are, told of the word's bytes as a whole: proofs/Spelled and
-- proofs/Keys. The key is asked of words of at most seven bytes, the hex number of at most sixteen digits
unfoldable pub word_with : Word → ℕ → ℕ → Word
word_with w b column =
    record {
      length = min (w.length + 1) 25;
      column = pick (eqb w.length 0) column w.column;
      key = key_with w.key b;
      decimal = w.decimal && ltb (digit_of b) 10;
      number = tens_of w.number (digit_of b);
      hexadecimal = w.hexadecimal && ltb (digit_of b) 16;
      hex = w.hex % 2 ^ 60 * 16 + digit_of b % 16;
    }

-- the word is a sign
abbrev pub is_sign : Word → Bool
is_sign w = eqb w.length 1 && sign (w.key % 256)

-- the byte that two hex digits stand for
abbrev pub byte_of : Word → ℕ
byte_of w = w.hex % 256
