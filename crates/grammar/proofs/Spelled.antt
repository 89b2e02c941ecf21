-- What a word's fields are, told of its bytes as a whole. Assumes nothing.
use Prim.Native.Nat.{ℕ, suc, ◌+◌, ◌*◌, ◌%◌, ◌^◌, ◌≤◌, ◌<◌, min}
use mathlib.Core.Path.{◌≡◌, refl, sym, ap, ◌∙◌}
use mathlib.Core.Bool.{Bool, true, false, ◌&&◌}
use mathlib.Core.List.{List, [], ◌∷◌}
use native.Mathlib.Omega.{arith}
use native.Mathlib.Nat.{pow-suc, pow-le-pow_right}
use lib.Dec.{ltb, lit<, lit≤}
use lib.ListN.{length}
use borrow.Author.Tests.{ltb-true}
use Rattle.rules.proofs.Bools.{and_split}
use Rattle.spelling.specs.declared.Word.{Word}
use Rattle.spelling.specs.Words.{digit_of, most, one_more_lem, tens_of, no_word, word_with, byte_of}
use Rattle.grammar.specs.Table.{byte, has_class}

-- the word w with more bytes, the first of them at that column
unfoldable pub spelled : Word → ℕ → List ℕ → Word
spelled w c [] = w
spelled w c (b ∷ bs) = spelled (word_with w b c) (one_more_lem c) bs

-- ---- decimal numbers of any length

-- the number that decimal digits stand for, after those of n
unfoldable pub value_from : ℕ → List ℕ → ℕ
value_from n [] = n
value_from n (b ∷ bs) = value_from (n * 10 + digit_of b) bs

tens_is : (n x d : ℕ) → n ≡ min x most → tens_of n d ≡ min (x * 10 + d) most
unfolding tens_of most
tens_is n x d e = omega arith

number_from_lem : (w : Word) (c x : ℕ) (bs : List ℕ) → w.number ≡ min x most → (spelled w c bs).number ≡ min (value_from x bs) most
unfolding spelled value_from word_with
number_from_lem w c x [] e = e
number_from_lem w c x (b ∷ bs) e = number_from_lem (word_with w b c) (one_more_lem c) (x * 10 + digit_of b) bs (tens_is w.number x (digit_of b) e)

-- a word's number is what its digits stand for, as far as numbers go: however many there are, none is lost and none wraps
pub number_is : (n c : ℕ) (bs : List ℕ) → (spelled (no_word n) c bs).number ≡ min (value_from 0 bs) most
unfolding most
number_is n c bs = number_from_lem (no_word n) c 0 bs refl

-- ---- lengths

length_from : (w : Word) (c x : ℕ) (bs : List ℕ) → w.length ≡ min x 25 → (spelled w c bs).length ≡ min (x + length bs) 25
unfolding spelled word_with
length_from w c x [] e = omega arith
length_from w c x (b ∷ bs) e =
    let h : min (w.length + 1) 25 ≡ min (x + 1) 25 = omega arith in
    let k : x + 1 + length bs ≡ x + suc (length bs) = omega arith in
    length_from (word_with w b c) (one_more_lem c) (x + 1) bs h ∙ ap (λ (n : ℕ). min n 25) k

pub length_is : (n c : ℕ) (bs : List ℕ) → (spelled (no_word n) c bs).length ≡ min (length bs) 25
length_is n c bs = let e : 0 + length bs ≡ length bs = omega arith in length_from (no_word n) c 0 bs refl ∙ ap (λ (k : ℕ). min k 25) e

-- ---- digits

-- each byte is a digit below that
unfoldable pub digits : ℕ → List ℕ → Bool
digits base [] = true
digits base (b ∷ bs) = ltb (digit_of b) base && digits base bs

and_assoc : (a b c : Bool) → ((a && b) && c) ≡ (a && (b && c))
and_assoc true b c = refl
and_assoc false b c = refl

and_true : (a : Bool) → (a && true) ≡ a
and_true true = refl
and_true false = refl

decimal_from : (w : Word) (c : ℕ) (bs : List ℕ) → (spelled w c bs).decimal ≡ (w.decimal && digits 10 bs)
unfolding spelled word_with digits
decimal_from w c [] = sym (and_true w.decimal)
decimal_from w c (b ∷ bs) = decimal_from (word_with w b c) (one_more_lem c) bs ∙ and_assoc w.decimal (ltb (digit_of b) 10) (digits 10 bs)

-- a word is a number where each of its bytes is a decimal digit
pub decimal_is : (n c : ℕ) (bs : List ℕ) → (spelled (no_word n) c bs).decimal ≡ digits 10 bs
decimal_is n c bs = decimal_from (no_word n) c bs

hexadecimal_from : (w : Word) (c : ℕ) (bs : List ℕ) → (spelled w c bs).hexadecimal ≡ (w.hexadecimal && digits 16 bs)
unfolding spelled word_with digits
hexadecimal_from w c [] = sym (and_true w.hexadecimal)
hexadecimal_from w c (b ∷ bs) =
    hexadecimal_from (word_with w b c) (one_more_lem c) bs ∙ and_assoc w.hexadecimal (ltb (digit_of b) 16) (digits 16 bs)

pub hexadecimal_is : (n c : ℕ) (bs : List ℕ) → (spelled (no_word n) c bs).hexadecimal ≡ digits 16 bs
hexadecimal_is n c bs = hexadecimal_from (no_word n) c bs

-- ---- hex numbers of at most sixteen digits

-- the number that hex digits stand for, after those of n
unfoldable pub hex_from_lem : ℕ → List ℕ → ℕ
hex_from_lem n [] = n
hex_from_lem n (b ∷ bs) = hex_from_lem (n * 16 + digit_of b) bs

hex_from : (w : Word) (c x r : ℕ) (bs : List ℕ) → digits 16 bs ≡ true → w.hex ≡ x → x < 16 ^ r → r + length bs ≤ 16 → (spelled w c bs).hex ≡ hex_from_lem x bs
unfolding spelled word_with hex_from_lem digits
hex_from w c x r [] d e lt le = e
hex_from w c x r (b ∷ bs) d e lt le =
    let both = and_split (ltb (digit_of b) 16) (digits 16 bs) d in
    let h = ltb-true (digit_of b) 16 both.0 in
    let small : 16 ^ r ≤ 16 ^ 15 = pow-le-pow_right {n = 16} (lit< tt) {i = r} {j = 15} (omega arith) in
    let s : w.hex % 1152921504606846976 * 16 + digit_of b % 16 ≡ x * 16 + digit_of b = omega arith in
    let t : x * 16 + digit_of b < 16 ^ suc r = rw (pow-suc 16 r) (omega arith) in
    hex_from (word_with w b c) (one_more_lem c) (x * 16 + digit_of b) (suc r) bs both.1 s t (omega arith)

pub hex_is : (n c : ℕ) (bs : List ℕ) → digits 16 bs ≡ true → length bs ≤ 16 → (spelled (no_word n) c bs).hex ≡ hex_from_lem 0 bs
hex_is n c bs d h = hex_from (no_word n) c 0 0 bs d refl (lit< tt) (omega arith)

-- two hex digits are a byte, and this one
pub byte_is : (n c m a b : ℕ) → digits 16 (a ∷ b ∷ []) ≡ true
    → (has_class byte (spelled (no_word n) c (a ∷ b ∷ [])) m ≡ true) × (byte_of (spelled (no_word n) c (a ∷ b ∷ [])) ≡ digit_of a * 16 + digit_of b)
unfolding has_class digits hex_from_lem
byte_is n c m a b d =
    let w : Word = spelled (no_word n) c (a ∷ b ∷ []) in
    let x : w.hexadecimal ≡ true = hexadecimal_is n c (a ∷ b ∷ []) ∙ d in
    let l : w.length ≡ 2 = length_is n c (a ∷ b ∷ []) in
    let h = hex_is n c (a ∷ b ∷ []) d (lit≤ tt) in
    let p = and_split (ltb (digit_of a) 16) (ltb (digit_of b) 16 && true) d in
    let q = and_split (ltb (digit_of b) 16) true p.1 in
    let s = ltb-true (digit_of a) 16 p.0 in
    let t = ltb-true (digit_of b) 16 q.0 in
    (rw (x, l), rw h (omega arith))
