-- How a form is filled by the bytes of a page, one after another. Assumes nothing.
use Prim.Native.Nat.{ℕ, suc, ◌+◌, ◌≤◌, ◌<◌}
use mathlib.Core.Path.{◌≡◌, refl, sym, ap, ◌∙◌}
use mathlib.Core.Bool.{true}
use mathlib.Core.List.{List, [], ◌∷◌}
use native.Mathlib.Numerals.{add-one}
use lib.ListN.{length, get_or, drop, drop_of_length-le}
use lib.Seq.{drop-cons}
use Rattle.forms.specs.declared.Filling.{Filling}
use Rattle.forms.specs.Forms.{taken, fills}
use Rattle.writing.proofs.Picks.{yes}

-- once the form's line is over nothing more is taken
pub fills_over : (f : Filling) (t : List ℕ) → f.over ≡ true → fills f t ≡ f
unfolding fills taken
fills_over f [] e = refl
fills_over f (x ∷ t) e = ap (λ (q : Filling). fills q t) (sym (yes _ _ e refl)) ∙ fills_over f t e

-- one byte more
pub fills_next : (f g : Filling) (t : List ℕ) (i : ℕ) → i < length t → g ≡ taken f (get_or t i 0) → fills f (drop i t) ≡ fills g (drop (i + 1) t)
unfolding fills
fills_next f g t i h e =
    ap (fills f) (drop-cons t i 0 h) ∙ ap (λ (q : Filling). fills q (drop (suc i) t)) (sym e) ∙ ap (λ (n : ℕ). fills g (drop n t)) (sym (add-one i))

-- no byte is left
pub fills_none : (f : Filling) (t : List ℕ) (i : ℕ) → length t ≤ i → fills f (drop i t) ≡ f
unfolding fills
fills_none f t i h = ap (fills f) (drop_of_length-le t {i = i} h)
