-- Numbers in bytes, high byte first: there and back, over any width. Assumes nothing.
use Prim.Native.Nat.{ℕ, zero, suc, ◌+◌, ◌*◌, ◌/◌, ◌%◌, ◌^◌, ◌<◌}
use mathlib.Core.Path.{◌≡◌, refl, sym, ap, ◌∙◌}
use mathlib.Core.List.{List, [], ◌∷◌, ◌++◌, append-nil}
use native.Mathlib.Omega.{arith}
use lib.ListN.{length, length-append}
use lib.Seq.{append_snoc}
use Rattle.image.specs.Form.{high_first, number_from, number}
use Rattle.image.specs.Laws.{OfBytes}

pub length_high : (n x : ℕ) → length (high_first n x) ≡ n
unfolding high_first
length_high zero x = refl
length_high (suc n) x = let h = length_high n (x / 256) in rw (length-append, h) (omega arith)

number_snoc : (x : ℕ) (l : List ℕ) (b : ℕ) → number_from x (l ++ b ∷ []) ≡ number_from x l * 256 + b
unfolding number_from
number_snoc x [] b = refl
number_snoc x (a ∷ l) b = number_snoc (x * 256 + a) l b

-- x in n bytes, read again
pub number_high : (n x : ℕ) → x < 256 ^ n → number (high_first n x) ≡ x
unfolding high_first number_from
number_high zero x h = omega arith
number_high (suc n) x h =
    let k : x / 256 < 256 ^ n = omega arith in
    rw (number_snoc, number_high n (x / 256) k) (omega arith)

-- bytes behind k bytes of x, in bytes again
high_from : (l : List ℕ) (k x : ℕ) → OfBytes l → high_first (k + length l) (number_from x l) ≡ high_first k x ++ l
unfolding high_first number_from
high_from [] k x h = let z : k + 0 ≡ k = omega arith in rw (z, append-nil)
high_from (b ∷ l) k x h =
    let small = h 0 in
    let e : k + suc (length l) ≡ suc k + length l = omega arith in
    let d : (x * 256 + b) / 256 ≡ x = omega arith in
    let m : (x * 256 + b) % 256 ≡ b = omega arith in
    rw (e, high_from l (suc k) (x * 256 + b) (λ i. h (suc i)), d, m) (append_snoc (high_first k x) b l)

-- n bytes, read and put again
pub high_number : (n : ℕ) (l : List ℕ) → length l ≡ n → OfBytes l → high_first n (number l) ≡ l
unfolding high_first
high_number n l e h = let z : n ≡ 0 + length l = omega arith in rw z (high_from l 0 0 h)

-- so bytes are what their number says
pub number_one : (l m : List ℕ) → length l ≡ length m → OfBytes l → OfBytes m → number l ≡ number m → l ≡ m
number_one l m e h k same = sym (high_number (length l) l refl h) ∙ ap (high_first (length l)) same ∙ high_number (length l) m (sym e) k

-- two bytes more
pub number_two : (x a b : ℕ) → number_from x (a ∷ b ∷ []) ≡ x * 65536 + (a * 256 + b)
unfolding number_from
number_two x a b = omega arith
