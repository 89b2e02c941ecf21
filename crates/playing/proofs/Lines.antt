-- A byte ends a line, which is played, or it does not. Assumes nothing.
use Prim.Native.Nat.{ℕ}
use mathlib.Core.Path.{◌≡◌, refl, sym, subst}
use mathlib.Core.Bool.{Bool, true, false}
use mathlib.Core.List.{List}
use Rattle.script.specs.declared.Line.{Line}
use Rattle.script.specs.declared.Reading.{Reading}
use Rattle.script.specs.Lines.{line_of}
use Rattle.standing.specs.declared.Playing.{Playing}
use Rattle.standing.specs.Benches.{with_reading}
use Rattle.playing.specs.Lines.{Untouched, Played, PlayedIf}

pub untouched : (A S R M : List ℕ) → Untouched A S R M A S R M
untouched A S R M = record { array_is = refl; security_is = refl; reply_is = refl; marks_are = refl }

module _ (p : Playing) (r : Reading) (A S F E K R M : List ℕ) where
  pub line_played : (q p' : Playing) (l : Line) (A' S' R' M' : List ℕ) → q ≡ with_reading p r → l ≡ line_of r → r.ended ≡ true
      → Played q l A S F E K R M p' A' S' R' M' → PlayedIf r.ended (with_reading p r) A S F E K R M p' A' S' R' M'
  line_played q p' l A' S' R' M' eq el e h =
      subst (λ (b : Bool). PlayedIf b (with_reading p r) A S F E K R M p' A' S' R' M') (sym e)
      (subst (λ (x : Playing). Played x (line_of r) A S F E K R M p' A' S' R' M') eq
      (subst (λ (y : Line). Played q y A S F E K R M p' A' S' R' M') el h))

  pub none_played : (p' : Playing) → r.ended ≡ false → p' ≡ with_reading p r → PlayedIf r.ended (with_reading p r) A S F E K R M p' A S R M
  none_played p' e h = subst (λ (b : Bool). PlayedIf b (with_reading p r) A S F E K R M p' A S R M) (sym e) (h, untouched A S R M)
