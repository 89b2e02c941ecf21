-- 01, The registers as read, of every chip: status and configuration bit by bit; the protection register travels as six bytes. Assumes nothing.
use Prim.Native.Nat.{ℕ, ◌+◌, ◌*◌, ◌/◌, ◌%◌, ◌^◌, ◌<◌}
use mathlib.Core.Path.{◌≡◌, refl}
use mathlib.Core.Bool.{Bool, true, false, ◌&&◌, beq}
use mathlib.Core.List.{List, [], ◌∷◌}
use native.Mathlib.Omega.{arith}
use lib.Dec.{ltb}
use Rattle.rules.specs.declared.Rest.{Rest}
use Rattle.rules.specs.declared.Source.{Source}
use Rattle.rules.specs.Words.{bit, num, Lent}
use Rattle.rules.specs.Registers.{busy, wse, wsp, bpnv, status, configuration}
use Rattle.rules.specs.Frames.{six}
use Rattle.rules.specs.Reading.{shown}
use Rattle.rules.proofs.Bools.{and_split}

-- a byte whose bits, from 0 up, are these flags
abbrev pub has_bits : ℕ → Bool → Bool → Bool → Bool → Bool → Bool → Bool → Bool → Bool
has_bits x b₀ b₁ b₂ b₃ b₄ b₅ b₆ b₇ =
    beq (bit 0 x) b₀ && beq (bit 1 x) b₁ && beq (bit 2 x) b₂ && beq (bit 3 x) b₃
    && beq (bit 4 x) b₄ && beq (bit 5 x) b₅ && beq (bit 6 x) b₆ && beq (bit 7 x) b₇ && ltb x 256

-- a test that holds of all flags
abbrev both : (Bool → Bool) → Bool
both f = f true && f false

abbrev eight : (Bool → Bool → Bool → Bool) → Bool
eight f = both (λ a. both (λ b. both (λ c. f a b c)))

at : (f : Bool → Bool) → both f ≡ true → (b : Bool) → f b ≡ true
at f e true = (and_split (f true) (f false) e).0
at f e false = (and_split (f true) (f false) e).1

eight_at : (f : Bool → Bool → Bool → Bool) → eight f ≡ true → (a b c : Bool) → f a b c ≡ true
eight_at f e a b c = at (λ c. f a b c) (at (λ b. both (λ c. f a b c)) (at (λ a. both (λ b. both (λ c. f a b c))) e a) b) c

abbrev status_right : Bool → Bool → Bool → Bool → Bool → Bool → Bool
status_right b w e p d s = has_bits (num b + 2 * num w + 4 * num e + 8 * num p + 16 * num d + 32 * num s + 128 * num b) b w e p d s false b

-- bit 0 BUSY, 1 WEL, 2 WSE, 3 WSP, 4 WPLD, 5 SEC, 6 zero, 7 BUSY again
pub status_bits : (r : Rest) → has_bits (status r) (busy r) r.flags.wel (wse r) (wsp r) r.flags.wpld r.flags.sec false (busy r) ≡ true
unfolding bit
status_bits r = eight_at (status_right (busy r) r.flags.wel (wse r)) (eight_at (λ b w e. eight (status_right b w e)) refl (busy r) r.flags.wel (wse r)) (wsp r) r.flags.wpld r.flags.sec

-- bit 1 IOC, bit 3 BPNV, bit 7 WPEN, others zero
pub configuration_bits : (r : Rest) → has_bits (configuration r) false r.flags.ioc false (bpnv r) false false false r.flags.wpen ≡ true
unfolding bit
configuration_bits r = eight_at (λ i n w. has_bits (2 * num i + 8 * num n + 128 * num w) false i false n false false false w) refl r.flags.ioc (bpnv r) r.flags.wpen

-- a number of six digits to the base 256
digits : (p q₁ q₂ q₃ q₄ q₅ r₀ r₁ r₂ r₃ r₄ r₅ : ℕ) → p ≡ q₁ * 256 + r₀ → q₁ ≡ q₂ * 256 + r₁ → q₂ ≡ q₃ * 256 + r₂ → q₃ ≡ q₄ * 256 + r₃ → q₄ ≡ q₅ * 256 + r₄ → q₅ ≡ r₅
    → r₅ * 2 ^ 40 + r₄ * 2 ^ 32 + r₃ * 2 ^ 24 + r₂ * 2 ^ 16 + r₁ * 2 ^ 8 + r₀ ≡ p
digits p q₁ q₂ q₃ q₄ q₅ r₀ r₁ r₂ r₃ r₄ r₅ e₀ e₁ e₂ e₃ e₄ e₅ = omega arith

-- 42 with the six bytes that 72 gave has the same register
pub register_travels : (r : Rest) (array security : Lent) (sent : List ℕ) → r.locks.protection < 2 ^ 48
    → let b : ℕ → ℕ = λ i. (shown Source.Protection r array security sent i).byte in
    six (0x42 ∷ b 0 ∷ b 1 ∷ b 2 ∷ b 3 ∷ b 4 ∷ b 5 ∷ []) ≡ r.locks.protection
unfolding shown
register_travels r array security sent h =
    let p = r.locks.protection in
    digits p (p / 2 ^ 8) (p / 2 ^ 16) (p / 2 ^ 24) (p / 2 ^ 32) (p / 2 ^ 40)
    (p / 2 ^ 0 % 256) (p / 2 ^ 8 % 256) (p / 2 ^ 16 % 256) (p / 2 ^ 24 % 256) (p / 2 ^ 32 % 256) (p / 2 ^ 40 % 256)
    (omega arith) (omega arith) (omega arith) (omega arith) (omega arith) (omega arith)
