-- What a wrong word may have been meant to be, by the word that is shown and the place where it stands.
use Rattle.std.specs.Prelude.{ℕ, ◌+◌, ◌-◌, ◌%◌, Option, Some, None, Bool, true, false, ◌&&◌, ◌||◌, List, [], ◌∷◌, eqb, ltb, get_or, take, drop}
use Rattle.rules.specs.Words.{pick}
use Rattle.spelling.specs.declared.Word.{Word}
use Rattle.spelling.specs.Words.{no_word, word_with}
use Rattle.std.specs.Option.{is_some}
use Rattle.grammar.specs.declared.Class.{Class}
use Rattle.grammar.specs.declared.Entry.{Entry}
use Rattle.grammar.specs.Table.{next_of}
use Rattle.hinting.specs.declared.Hint.{Hint}

-- ---- the hints

abbrev pub no_hint : Option Hint
no_hint = None

-- a byte is two digits
abbrev pub two_digits : Option Hint
two_digits = Some Hint.TwoDigits

-- bytes stand apart
abbrev pub apart : Option Hint
apart = Some Hint.Apart

-- words are of lower case
abbrev pub lower_case : Option Hint
lower_case = Some Hint.LowerCase

-- ---- which it is

-- a letter in lower case, any other byte as it is
unfoldable pub lower : ℕ → ℕ
lower b = pick (ltb b 0x41) b (pick (ltb b 0x5B) (b + 32) b)

-- the word w with more bytes, in lower case
unfoldable pub lowered : Word → List ℕ → Word
lowered w [] = w
lowered w (b ∷ bs) = lowered (word_with w (lower b) 0) bs

-- the word may stand where it does
unfoldable pub stands : ℕ → Word → Bool
stands p w = is_some (next_of p w)

-- the word 00, a byte
abbrev pub a_byte : Word
a_byte = record { length = 2; column = 0; key = 0x013030; decimal = true; number = 0; hexadecimal = true; hex = 0 }

abbrev pub is_byte : Class → Bool
is_byte Class.Byte = true
is_byte Class.Number = false
is_byte Class.Times = false
is_byte Class.Refusal = false
is_byte Class.Address = false
is_byte Class.Hex = false
is_byte Class.Name = false
is_byte Class.Station = false
is_byte (Class.Word n) = false

-- a byte may stand at that place
unfoldable pub takes_byte : ℕ → Bool
takes_byte p = byte_row (next_of p a_byte)
  where
    byte_row : Option Entry → Bool
    byte_row None = false
    byte_row (Some e) = is_byte e.class

-- the bytes 0x before the digits, by the word's first two
abbrev pub prefix : ℕ → ℕ → ℕ
prefix a b = pick (eqb a 0x30 && (eqb b 0x78 || eqb b 0x58)) 2 0

-- hex digits where a byte may stand: four, six and so on are bytes that do not stand apart
unfoldable pub of_digits : Bool → ℕ → Option Hint
of_digits takes n = pick takes (pick (ltb 2 n && eqb (n % 2) 0) apart two_digits) no_hint

-- the bytes from `from` to `to` of a word, as far as it goes
abbrev pub part : ℕ → ℕ → List ℕ → List ℕ
part from to word = take (to - from) (drop from word)

-- the word's bytes from there on, in lower case
abbrev pub in_lower : List ℕ → ℕ → ℕ → Word
in_lower word from n = lowered (no_word 0) (part from n word)

-- by the word's digits, after 0x
abbrev pub digits_of : ℕ → Word → Option Hint
digits_of p w = of_digits (takes_byte p && w.hexadecimal) w.length

-- where the line ends too early, or the word is longer than what is shown of it, there is no hint
unfoldable pub hint_of : ℕ → List ℕ → ℕ → Option Hint
hint_of p word n =
    pick (eqb n 0 || ltb 24 n) no_hint
    (pick (stands p (in_lower word 0 n)) lower_case
    (digits_of p (in_lower word (prefix (get_or word 0 0) (get_or word 1 0)) n)))
