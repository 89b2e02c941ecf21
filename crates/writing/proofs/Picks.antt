-- Choices by a test that is known, without a rewrite of what is chosen. Assumes nothing.
use mathlib.Core.Path.{◌≡◌, sym, ap, ◌∙◌}
use mathlib.Core.Bool.{Bool, true, false}
use Rattle.rules.specs.Words.{pick}

pub yes {ℓ} : {A : Type ℓ} {t : Bool} {x : A} (a b : A) → t ≡ true → x ≡ a → x ≡ pick t a b
yes {A = A} a b e p = p ∙ sym (ap (λ (t : Bool). pick t a b) e)

pub no {ℓ} : {A : Type ℓ} {t : Bool} {x : A} (a b : A) → t ≡ false → x ≡ b → x ≡ pick t a b
no {A = A} a b e p = p ∙ sym (ap (λ (t : Bool). pick t a b) e)
