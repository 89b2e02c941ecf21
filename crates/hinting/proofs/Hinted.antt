-- A word read in lower case, byte by byte, and its part behind 0x. Assumes nothing.
use Prim.Native.Nat.{ℕ, ◌+◌, ◌-◌, ◌≤◌, ◌<◌, min}
use mathlib.Core.Path.{◌≡◌, refl}
use mathlib.Core.Bool.{Bool, true, false}
use mathlib.Core.List.{List}
use native.Mathlib.Decide.{dec_le}
use native.Mathlib.Numerals.{add-one}
use native.Mathlib.Omega.{arith}
use lib.ListN.{length, get_or, take, drop, drop_of_length-le}
use lib.Seq.{drop-cons}
use borrow.Author.Tests.{ne_eqb, le-ltb}
use Rattle.std.specs.Prelude.{cond}
use Rattle.std.specs.Char.{to_ascii_lowercase}
use Rattle.rules.specs.Words.{pick}
use Rattle.spelling.specs.declared.Word.{Word}
use Rattle.spelling.specs.Words.{no_word, word_with}
use Rattle.hinting.specs.Hints.{lower, lowered, stands, prefix, digits_of, hint_of, lower_case}

picks : (t : Bool) (a b : ℕ) → cond t a b ≡ pick t a b
picks true a b = refl
picks false a b = refl

pub lowers : (b : ℕ) → to_ascii_lowercase b ≡ lower b
unfolding lower
lowers b = simp picks

pub lowered_next : (w : Word) (l : List ℕ) (i b : ℕ) → i < length l → b ≡ to_ascii_lowercase (get_or l i 0) → lowered (word_with w b 0) (drop (i + 1) l) ≡ lowered w (drop i l)
unfolding lowered
lowered_next w l i b h e = rw (e, lowers, add-one i, drop-cons l i 0 h)

pub lowered_end : (w : Word) (l : List ℕ) (i : ℕ) → length l ≤ i → w ≡ lowered w (drop i l)
unfolding lowered
lowered_end w l i h = rw (drop_of_length-le l {i = i} h)

-- where the part begins behind the word's end it has no byte
pub same_part : (s n : ℕ) (l : List ℕ) → take (n - min s n) (drop (min s n) l) ≡ take (n - s) (drop s l)
same_part s n l = go (dec_le s n)
  where
    go : Dec (s ≤ n) → take (n - min s n) (drop (min s n) l) ≡ take (n - s) (drop s l)
    go (yes h) = let e : min s n ≡ s = omega arith in rw e
    go (no h) = let e : n - min s n ≡ 0 = omega arith in let f : n - s ≡ 0 = omega arith in rw (e, f)

-- a word of which all is shown
pub shown_whole : (p n : ℕ) (word : List ℕ) → (n ≡ 0 → ⊥) → n ≤ 24
    → hint_of p word n
    ≡ pick (stands p (lowered (no_word 0) (take n word))) lower_case
    (digits_of p (lowered (no_word 0) (take (n - prefix (get_or word 0 0) (get_or word 1 0)) (drop (prefix (get_or word 0 0) (get_or word 1 0)) word))))
unfolding hint_of
shown_whole p n word some few = let e : n - 0 ≡ n = omega arith in rw (ne_eqb _ _ some, le-ltb _ _ few, e)
