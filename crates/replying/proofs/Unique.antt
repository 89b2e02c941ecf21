-- No second outcome: whatever meets the guarantee of a public function of this crate at the same input leaves the same reply and the same marks.
-- A slice is the only one with its memory. Assumes nothing.
use Prim.Native.Nat.{ℕ}
use mathlib.Core.Path.{◌≡◌}
use mathlib.Core.List.{List}
use denote.Ref.{Bor}
use denote.MutBor.{MutBor}
use Rattle.rules.specs.declared.Cell.{Cell}
use Rattle.rules.specs.declared.Kind.{Kind}
use Rattle.rules.specs.declared.Rest.{Rest}
use Rattle.rules.proofs.Promises.{one, lent_one}
use Rattle.replying.specs.Replying.{Replied}
use Rattle.replying.proofs.fill_both.Reads as fill-both
use Rattle.replying.proofs.respond.Reads as respond

abbrev Slice : Type 0
Slice = MutBor (List ℕ)

abbrev Shared : Type 0
Shared = Bor (List ℕ)

replied_one : {y m y₁ m₁ y₂ m₂ : List ℕ} {f : ℕ → Cell} → Replied y m y₁ m₁ f → Replied y m y₂ m₂ f → (y₁ ≡ y₂) × (m₁ ≡ m₂)
replied_one p q = (lent_one _ _ (one p.bytes q.bytes), lent_one _ _ (one p.known q.known))

pub fill_both_one : (κ : List ℕ × (List ℕ × Unit {0})) (a x y : Slice × (Slice × (ℕ × (ℕ × Unit {0})))) → fill-both.Post κ a tt x → fill-both.Post κ a tt y
    → (x.0.now ≡ y.0.now) × (x.1.0.now ≡ y.1.0.now)
fill_both_one κ a x y p q = replied_one p q

pub respond_one : (κ : List ℕ × (List ℕ × (List ℕ × (List ℕ × (List ℕ × Unit {0}))))) (a x y : Kind × (Rest × (Shared × (Shared × (Shared × (Slice × (Slice × Unit {0}))))))) → respond.Post κ a tt x → respond.Post κ a tt y
    → (x.1.1.1.1.1.0.now ≡ y.1.1.1.1.1.0.now) × (x.1.1.1.1.1.1.0.now ≡ y.1.1.1.1.1.1.0.now)
respond_one κ a x y p q = replied_one p q
