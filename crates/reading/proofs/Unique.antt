-- No second outcome: whatever meets the guarantee of a public function of this crate at the same input leaves the same lent memory. Stated over
-- the guarantees themselves: a reply that is filled to its end is one list. Assumes nothing.
use Prim.Native.Nat.{ℕ}
use mathlib.Core.Path.{◌≡◌, sym, ◌∙◌}
use mathlib.Core.List.{List}
use native.Mathlib.Omega.{arith}
use lib.Seq.{ext_get_or}
use denote.MutBor.{MutBor}
use denote.Ref.{Bor}
use Rattle.rules.specs.declared.Range.{Range}
use Rattle.reading.specs.Upto.{Upto}
use Rattle.reading.proofs.read_array.Reads as read-array
use Rattle.reading.proofs.read_burst.Reads as read-burst
use Rattle.reading.proofs.read_security.Reads as read-security
use Rattle.reading.proofs.read_protection.Reads as read-protection
use Rattle.reading.proofs.read_identity.Reads as read-identity

-- what is filled to its end leaves no second list
pub upto_one : (l k : List ℕ) (n : ℕ) (f : ℕ → ℕ) → Upto l n n f → Upto k n n f → l ≡ k
upto_one l k n f p q =
    let e = p.size in
    ext_get_or 0 l k (p.size ∙ sym q.size) (λ i below. p.at i (omega arith) ∙ sym (q.at i (omega arith)))

abbrev Slice : Type 0
Slice = Bor (List ℕ)

abbrev Lent : Type 0
Lent = MutBor (List ℕ)

pub read_array_one : (κ : List ℕ × (List ℕ × (List ℕ × Unit {0}))) (a x y : ℕ × (Range × (Slice × (ℕ × (Lent × (Lent × Unit {0})))))) → read-array.Post κ a tt x → read-array.Post κ a tt y
    → (x.1.1.1.1.0.now ≡ y.1.1.1.1.0.now) × (x.1.1.1.1.1.0.now ≡ y.1.1.1.1.1.0.now)
read_array_one κ a x y p q = (upto_one _ _ _ _ p.0 q.0, upto_one _ _ _ _ p.1 q.1)

pub read_burst_one : (κ : List ℕ × (List ℕ × (List ℕ × Unit {0}))) (a x y : ℕ × (Range × (Slice × (ℕ × (ℕ × (Lent × (Lent × Unit {0}))))))) → read-burst.Post κ a tt x → read-burst.Post κ a tt y
    → (x.1.1.1.1.1.0.now ≡ y.1.1.1.1.1.0.now) × (x.1.1.1.1.1.1.0.now ≡ y.1.1.1.1.1.1.0.now)
read_burst_one κ a x y p q = (upto_one _ _ _ _ p.0 q.0, upto_one _ _ _ _ p.1 q.1)

pub read_security_one : (κ : List ℕ × (List ℕ × Unit {0})) (a x y : Slice × (ℕ × (Lent × Unit {0}))) → read-security.Post κ a tt x → read-security.Post κ a tt y → x.1.1.0.now ≡ y.1.1.0.now
read_security_one κ a x y p q = upto_one _ _ _ _ p q

pub read_protection_one : (κ : List ℕ × Unit {0}) (a x y : ℕ × (Lent × Unit {0})) → read-protection.Post κ a tt x → read-protection.Post κ a tt y → x.1.0.now ≡ y.1.0.now
read_protection_one κ a x y p q = upto_one _ _ _ _ p q

pub read_identity_one : (κ : List ℕ × Unit {0}) (a x y : Lent × Unit {0}) → read-identity.Post κ a tt x → read-identity.Post κ a tt y → x.0.now ≡ y.0.now
read_identity_one κ a x y p q = upto_one _ _ _ _ p q
