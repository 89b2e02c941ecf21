-- Choices by a test that is known. Assumes nothing.
use mathlib.Core.Path.{◌≡◌, sym, ap, ◌∙◌}
use mathlib.Core.Bool.{Bool, true, false}
use Rattle.rules.specs.Words.{pick}

pub picked {ℓ} : {A : Type ℓ} {b t : Bool} (x y : A) → b ≡ t → b ≡ true → x ≡ pick t x y
picked {A = A} x y e q = ap (λ (t : Bool). pick t x y) (sym q ∙ e)

pub passed_over {ℓ} : {A : Type ℓ} {b t : Bool} (x y : A) → b ≡ t → b ≡ false → y ≡ pick t x y
passed_over {A = A} x y e q = ap (λ (t : Bool). pick t x y) (sym q ∙ e)
