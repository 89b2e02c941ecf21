-- No second outcome: whatever meets the guarantee of a public function of this crate at the same input is the same result and the same lent bytes.
-- Assumes nothing.
use Prim.Native.Nat.{ℕ}
use mathlib.Core.Path.{◌≡◌, sym, ◌∙◌}
use mathlib.Core.Bool.{Bool}
use mathlib.Core.List.{List}
use denote.MutBor.{MutBor}
use denote.Ref.{Bor}
use Rattle.rules.specs.declared.Rest.{Rest}
use Rattle.rules.specs.declared.Works.{Works}
use Rattle.record_code.proofs.is_code.Reads as is_code
use Rattle.record_code.proofs.rest_in.Reads as rest_in
use Rattle.record_code.proofs.put_rest.Reads as put_rest
use Rattle.record_code.proofs.put_idle.Reads as put-idle
use Rattle.record_code.proofs.is_idle.Reads as is-idle
use Rattle.record_code.proofs.idle_in.Reads as idle-in
use Rattle.record_code.proofs.works_in.Reads as works-in

pub is_code_one : (κ : List ℕ × Unit {0}) (a x y : Bor (List ℕ) × Unit {0}) (r r' : Bool) → is_code.Post κ a r x → is_code.Post κ a r' y → r ≡ r'
is_code_one κ a x y r r' p q = p ∙ sym q

pub rest_in_one : (κ : List ℕ × Unit {0}) (a x y : Bor (List ℕ) × Unit {0}) (r r' : Rest) → rest_in.Post κ a r x → rest_in.Post κ a r' y → r ≡ r'
rest_in_one κ a x y r r' p q = p ∙ sym q

pub put_rest_one : (κ : List ℕ × Unit {0}) (a x y : MutBor (List ℕ) × (Rest × Unit {0})) → put_rest.Post κ a tt x → put_rest.Post κ a tt y → x.0.now ≡ y.0.now
put_rest_one κ a x y p q = p ∙ sym q

pub put_idle_one : (κ : List ℕ × Unit {0}) (a x y : MutBor (List ℕ) × (Rest × Unit {0})) → put-idle.Post κ a tt x → put-idle.Post κ a tt y → x.0.now ≡ y.0.now
put_idle_one κ a x y p q = p ∙ sym q

pub is_idle_one : (κ : List ℕ × Unit {0}) (a x y : Bor (List ℕ) × Unit {0}) (r r' : Bool) → is-idle.Post κ a r x → is-idle.Post κ a r' y → r ≡ r'
is_idle_one κ a x y r r' p q = p ∙ sym q

pub idle_in_one : (κ : List ℕ × Unit {0}) (a x y : Bor (List ℕ) × Unit {0}) (r r' : Rest) → idle-in.Post κ a r x → idle-in.Post κ a r' y → r ≡ r'
idle_in_one κ a x y r r' p q = p ∙ sym q

pub works_in_one : (κ : List ℕ × Unit {0}) (a x y : Bor (List ℕ) × Unit {0}) (r r' : Works) → works-in.Post κ a r x → works-in.Post κ a r' y → r ≡ r'
works_in_one κ a x y r r' p q = p ∙ sym q
