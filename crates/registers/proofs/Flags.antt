-- A register's byte by shifts and ors is the sum of its flags: a test that antt computes at all flags. Assumes nothing.
use Prim.Native.Nat.{ℕ, ◌+◌, ◌*◌, ◌%◌}
use mathlib.Core.Path.{◌≡◌, refl}
use mathlib.Core.Bool.{Bool, true, false, ◌&&◌}
use lib.Dec.{eqb}
use lib.Bits.{bit_or}
use mir.Val.{bool_byte}
use borrow.Author.Tests.{eqb-true}
use Rattle.rules.specs.Words.{num}
use Rattle.rules.proofs.Bools.{and_split}

all : (Bool → Bool) → Bool
all f = f true && f false

all_at : (f : Bool → Bool) → all f ≡ true → (b : Bool) → f b ≡ true
unfolding all
all_at f e true = (and_split (f true) (f false) e).0
all_at f e false = (and_split (f true) (f false) e).1

abbrev ored : Bool → Bool → Bool → Bool → Bool → Bool → ℕ
ored a b c d e f =
    bit_or (bit_or (bit_or (bit_or (bit_or (bit_or (bool_byte a) (bool_byte b * 2 % 256)) (bool_byte c * 4 % 256)) (bool_byte d * 8 % 256)) (bool_byte e * 16 % 256)) (bool_byte f * 32 % 256)) (bool_byte a * 128 % 256)

abbrev summed : Bool → Bool → Bool → Bool → Bool → Bool → ℕ
summed a b c d e f = num a + 2 * num b + 4 * num c + 8 * num d + 16 * num e + 32 * num f + 128 * num a

same : Bool → Bool → Bool → Bool → Bool → Bool → Bool
same a b c d e f = eqb (ored a b c d e f) (summed a b c d e f)

pub status_byte : (a b c d e f : Bool) → ored a b c d e f ≡ summed a b c d e f
unfolding all same
status_byte a b c d e f =
    eqb-true (ored a b c d e f) (summed a b c d e f)
    (all_at (same a b c d e)
    (all_at (λ y. all (same a b c d y))
    (all_at (λ x. all (λ y. all (same a b c x y)))
    (all_at (λ w. all (λ x. all (λ y. all (same a b w x y))))
    (all_at (λ v. all (λ w. all (λ x. all (λ y. all (same a v w x y)))))
    (all_at (λ u. all (λ v. all (λ w. all (λ x. all (λ y. all (same u v w x y)))))) refl a) b) c) d) e) f)

pub configuration_byte : (a b c : Bool) → bit_or (bit_or (bool_byte a * 2 % 256) (bool_byte b * 8 % 256)) (bool_byte c * 128 % 256) ≡ 2 * num a + 8 * num b + 128 * num c
configuration_byte true true true = refl
configuration_byte true true false = refl
configuration_byte true false true = refl
configuration_byte true false false = refl
configuration_byte false true true = refl
configuration_byte false true false = refl
configuration_byte false false true = refl
configuration_byte false false false = refl
