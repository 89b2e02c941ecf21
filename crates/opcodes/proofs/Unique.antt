-- No second outcome: whatever meets the guarantee of a public function of this crate at the same input is the same result. Stated over the
-- guarantees themselves. Assumes nothing.
use Prim.Native.Nat.{ℕ}
use mathlib.Core.Path.{◌≡◌}
use mathlib.Core.List.{List}
use denote.Ref.{Bor}
use Rattle.rules.specs.declared.Form.{Form}
use Rattle.rules.proofs.Promises.{one}
use Rattle.opcodes.proofs.form_of.Reads as form_of
use Rattle.opcodes.proofs.sent_byte.Reads as sent-byte
use Rattle.opcodes.proofs.address_of.Reads as address-of
use Rattle.opcodes.proofs.security_address_of.Reads as security-address-of
use Rattle.opcodes.proofs.six_of.Reads as six-of

pub form_of_one : (a x y : ℕ × Unit {0}) (r s : Form) → form_of.Post tt a r x → form_of.Post tt a s y → r ≡ s
form_of_one a x y r s p q = one p q

pub sent_byte_one : (κ : List ℕ × Unit {0}) (a x y : Bor (List ℕ) × (ℕ × Unit {0})) (r s : ℕ) → sent-byte.Post κ a r x → sent-byte.Post κ a s y → r ≡ s
sent_byte_one κ a x y r s p q = one p.0 q.0

module _ (κ : List ℕ × Unit {0}) (a x y : Bor (List ℕ) × Unit {0}) (r s : ℕ) where
  pub address_of_one : address-of.Post κ a r x → address-of.Post κ a s y → r ≡ s
  address_of_one p q = one p.0 q.0

  pub security_address_of_one : security-address-of.Post κ a r x → security-address-of.Post κ a s y → r ≡ s
  security_address_of_one p q = one p.0 q.0

  pub six_of_one : six-of.Post κ a r x → six-of.Post κ a s y → r ≡ s
  six_of_one p q = one p q
