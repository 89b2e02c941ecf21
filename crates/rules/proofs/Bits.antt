-- Laws of bits. Assumes nothing.
use Prim.Native.Nat.{ℕ, zero, suc, ◌*◌, ◌/◌, ◌%◌, ◌^◌, ◌<◌}
use mathlib.Core.Path.{◌≡◌, refl, sym, ap, ◌∙◌}
use mathlib.Core.Bool.{Bool, true, false, ◌&&◌, ◌||◌, true≢false, false≢true}
use native.Mathlib.Nat.{pow-suc, zero-div, lt_of_le_of_lt}
use native.Mathlib.Numerals.{one-add}
use native.Mathlib.Omega.{arith}
use lib.Pow.{shr-shr, pow_pos}
use lib.Dec.{eqb}
use lib.Bits.{bit_and, bit_or, and_shr, and_mod, or_shr, or_mod, and_le_l}
use Rattle.rules.specs.Words.{bit}
use Rattle.rules.proofs.Bools.{and_split, or_left, or_right, upto, upto_at}

two : (x : ℕ) → x % 2 < 2
two x = omega arith

-- a digit is 0 or 1
digit : (P : ℕ → Type 0) → P 0 → P 1 → (x : ℕ) → x < 2 → P x
digit P p q zero h = p
digit P p q (suc zero) h = q
digit P p q (suc (suc x)) h = absurd (omega arith)

pub bit_or_lem : (n a b : ℕ) → bit n (bit_or a b) ≡ (bit n a || bit n b)
unfolding bit
bit_or_lem n a b =
    ap (λ (x : ℕ). eqb (x % 2) 1) (or_shr a b n) ∙ ap (λ (x : ℕ). eqb x 1) (or_mod (a / 2 ^ n) (b / 2 ^ n) 1)
    ∙ digit (λ x. eqb (bit_or x (b / 2 ^ n % 2)) 1 ≡ (eqb x 1 || eqb (b / 2 ^ n % 2) 1))
    (digit (λ y. eqb (bit_or 0 y) 1 ≡ (false || eqb y 1)) refl refl (b / 2 ^ n % 2) (two (b / 2 ^ n)))
    (digit (λ y. eqb (bit_or 1 y) 1 ≡ (true || eqb y 1)) refl refl (b / 2 ^ n % 2) (two (b / 2 ^ n)))
    (a / 2 ^ n % 2) (two (a / 2 ^ n))

pub bit_and_lem : (n a b : ℕ) → bit n (bit_and a b) ≡ (bit n a && bit n b)
unfolding bit
bit_and_lem n a b =
    ap (λ (x : ℕ). eqb (x % 2) 1) (and_shr a b n) ∙ ap (λ (x : ℕ). eqb x 1) (and_mod (a / 2 ^ n) (b / 2 ^ n) 1)
    ∙ digit (λ x. eqb (bit_and x (b / 2 ^ n % 2)) 1 ≡ (eqb x 1 && eqb (b / 2 ^ n % 2) 1))
    (digit (λ y. eqb (bit_and 0 y) 1 ≡ (false && eqb y 1)) refl refl (b / 2 ^ n % 2) (two (b / 2 ^ n)))
    (digit (λ y. eqb (bit_and 1 y) 1 ≡ (true && eqb y 1)) refl refl (b / 2 ^ n % 2) (two (b / 2 ^ n)))
    (a / 2 ^ n % 2) (two (a / 2 ^ n))

pub bit_zero : (n : ℕ) → bit n 0 ≡ false
unfolding bit
bit_zero n = ap (λ (x : ℕ). eqb (x % 2) 1) (zero-div (2 ^ n))

bit_suc : (n a : ℕ) → bit (suc n) a ≡ bit n (a / 2)
unfolding bit
bit_suc n a = ap (λ (x : ℕ). eqb (x % 2) 1) (ap (λ (k : ℕ). a / 2 ^ k) (sym (one-add n)) ∙ sym (shr-shr a 1 n))

bit_low : (a : ℕ) → bit 0 a ≡ eqb (a % 2) 1
unfolding bit
bit_low a = ap (λ (x : ℕ). eqb (x % 2) 1) (whole a)
  where
    whole : (x : ℕ) → x / 1 ≡ x
    whole x = omega arith

low_ext : (x y : ℕ) → x < 2 → y < 2 → eqb x 1 ≡ eqb y 1 → x ≡ y
low_ext x y hx hy =
    digit (λ x. eqb x 1 ≡ eqb y 1 → x ≡ y)
    (digit (λ y. false ≡ eqb y 1 → 0 ≡ y) (λ e. refl) (λ e. absurd (false≢true e)) y hy)
    (digit (λ y. true ≡ eqb y 1 → 1 ≡ y) (λ e. absurd (true≢false e)) (λ e. refl) y hy)
    x hx

half : (a k : ℕ) → a < 2 ^ suc k → a / 2 < 2 ^ k
half a k h = let e : 2 ^ suc k ≡ 2 ^ k * 2 = pow-suc 2 k in omega arith

-- two numbers of k binary digits are equal when their bits are
pub bits_ext : (k a b : ℕ) → a < 2 ^ k → b < 2 ^ k → ((n : ℕ) → n < k → bit n a ≡ bit n b) → a ≡ b
bits_ext zero a b ha hb h = omega arith
bits_ext (suc k) a b ha hb h =
    let hi : a / 2 ≡ b / 2 = bits_ext k (a / 2) (b / 2) (half a k ha) (half b k hb) (λ n below. sym (bit_suc n a) ∙ h (suc n) (omega arith) ∙ bit_suc n b) in
    let lo : a % 2 ≡ b % 2 = low_ext (a % 2) (b % 2) (two a) (two b) (sym (bit_low a) ∙ h 0 (omega arith) ∙ bit_low b) in
    omega arith

-- ---- a register whose bits are among another's, or apart from them

and_imp : (a b : Bool) → (a ≡ true → b ≡ true) → (a && b) ≡ a
and_imp true b h = h refl
and_imp false b h = refl

and_imp_not : (a b : Bool) → (a ≡ true → b ≡ false) → (a && b) ≡ false
and_imp_not true b h = h refl
and_imp_not false b h = refl

and_not : (a b : Bool) → (a && b) ≡ false → a ≡ true → b ≡ false
and_not true b e h = e
and_not false b e h = absurd (false≢true h)

pub among_at : (p q : ℕ) → bit_and p q ≡ p → (n : ℕ) → bit n p ≡ true → bit n q ≡ true
among_at p q e n h = (and_split (bit n p) (bit n q) (sym (bit_and_lem n p q) ∙ ap (bit n) e ∙ h)).1

pub among_intro : (k p q : ℕ) → p < 2 ^ k → ((n : ℕ) → n < k → bit n p ≡ true → bit n q ≡ true) → bit_and p q ≡ p
among_intro k p q hp h =
    bits_ext k (bit_and p q) p (lt_of_le_of_lt (and_le_l p q) hp) hp (λ n below. bit_and_lem n p q ∙ and_imp (bit n p) (bit n q) (h n below))

pub apart_at : (p q : ℕ) → bit_and p q ≡ 0 → (n : ℕ) → bit n p ≡ true → bit n q ≡ false
apart_at p q e n h = and_not (bit n p) (bit n q) (sym (bit_and_lem n p q) ∙ ap (bit n) e ∙ bit_zero n) h

pub apart_intro : (k p q : ℕ) → p < 2 ^ k → ((n : ℕ) → n < k → bit n p ≡ true → bit n q ≡ false) → bit_and p q ≡ 0
apart_intro k p q hp h =
    bits_ext k (bit_and p q) 0 (lt_of_le_of_lt (and_le_l p q) hp) (pow_pos k)
    (λ n below. bit_and_lem n p q ∙ and_imp_not (bit n p) (bit n q) (h n below) ∙ sym (bit_zero n))

-- ---- bytes

-- every number has fewer binary digits than it counts
below_power : (x : ℕ) → x < 2 ^ x
below_power zero = omega arith
below_power (suc x) = let h = below_power x in let e : 2 ^ suc x ≡ 2 ^ x * 2 = pow-suc 2 x in omega arith

-- what was cleared is cleared already
pub and_absorbs : (x y : ℕ) → bit_and (bit_and x y) x ≡ bit_and x y
and_absorbs x y = among_intro (bit_and x y) (bit_and x y) x (below_power (bit_and x y)) (λ n below h. (and_split (bit n x) (bit n y) (sym (bit_and_lem n x y) ∙ h)).0)

-- what bits are added to keeps its own
pub or_absorbs : (x y : ℕ) → bit_and x (bit_or x y) ≡ x
or_absorbs x y = among_intro x x (bit_or x y) (below_power x) (λ n below h. bit_or_lem n x y ∙ or_left (bit n x) (bit n y) h)

all_set : upto 8 (λ n. bit n 0xFF) ≡ true
unfolding bit
all_set = refl

pub byte_bit : (n : ℕ) → n < 8 → bit n 0xFF ≡ true
byte_bit n h = upto_at 8 (λ n. bit n 0xFF) all_set n h

pub byte_among : (x y : ℕ) → x < 256 → bit_and x (bit_or y 0xFF) ≡ x
byte_among x y h = among_intro 8 x (bit_or y 0xFF) h (λ n below k. bit_or_lem n y 0xFF ∙ or_right (bit n y) (bit n 0xFF) (byte_bit n below))
