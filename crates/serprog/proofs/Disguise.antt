-- What the disguise changes: the device byte of an identity, where it is asked for. Assumes nothing.
use Prim.Native.Nat.{ℕ, ◌%◌}
use mathlib.Core.Path.{◌≡◌, refl}
use mathlib.Core.Bool.{Bool, true, false}
use mathlib.Core.List.{[], ◌∷◌}
use native.Mathlib.Omega.{arith}
use lib.Dec.{eqb}
use lib.ListN.{get_or}
use borrow.Author.Tests.{ne_eqb, eqb-true}
use Rattle.rules.specs.Words.{pick}
use Rattle.rules.proofs.Bools.{upto, upto_at}
use Rattle.serprog.specs.Showing.{disguised, sibling, shown_byte}

-- where it is not asked for, the tool is shown what the chip replied
pub not_asked : (done : Bool) (op i b : ℕ) → shown_byte false done op i b ≡ b
not_asked done op i b = refl

-- so with a frame that was refused
pub not_done : (disguise : Bool) (op i b : ℕ) → shown_byte disguise false op i b ≡ b
not_done true op i b = refl
not_done false op i b = refl

-- and with any other opcode
pub not_identity : (disguise done : Bool) (op i b : ℕ) → (op ≡ 0x9F → ⊥) → (op ≡ 0xAF → ⊥) → shown_byte disguise done op i b ≡ b
not_identity true true op i b p q = rw (ne_eqb op 0x9F p, ne_eqb op 0xAF q)
not_identity true false op i b p q = refl
not_identity false done op i b p q = refl

-- and in any place but the device byte's
pub not_device : (disguise done : Bool) (op i b : ℕ) → (i % 3 ≡ 2 → ⊥) → shown_byte disguise done op i b ≡ b
not_device disguise done op i b h = rw (ne_eqb (i % 3) 2 h) (either (disguised disguise done op))
  where
    either : (t : Bool) → pick t b b ≡ b
    either true = refl
    either false = refl

-- an identity of the chip is shown as one of the sibling
same_identity : upto 3 (λ k. eqb (pick (eqb k 2) 0x41 (get_or (0xBF ∷ 0x26 ∷ 0x51 ∷ []) k 0)) (get_or (0xBF ∷ 0x26 ∷ 0x41 ∷ []) k 0)) ≡ true
same_identity = refl

pub identity_shown : (i : ℕ) → sibling i (get_or (0xBF ∷ 0x26 ∷ 0x51 ∷ []) (i % 3) 0) ≡ get_or (0xBF ∷ 0x26 ∷ 0x41 ∷ []) (i % 3) 0
identity_shown i =
    eqb-true _ _
    (upto_at 3 (λ k. eqb (pick (eqb k 2) 0x41 (get_or (0xBF ∷ 0x26 ∷ 0x51 ∷ []) k 0)) (get_or (0xBF ∷ 0x26 ∷ 0x41 ∷ []) k 0)) same_identity (i % 3) (omega arith))

pub shown_9F : (i b : ℕ) → shown_byte true true 0x9F i b ≡ sibling i b
shown_9F i b = refl

pub shown_AF : (i b : ℕ) → shown_byte true true 0xAF i b ≡ sibling i b
shown_AF i b = refl
