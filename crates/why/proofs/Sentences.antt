-- Sentences of a well-formed record that hold. Assumes nothing.
use Prim.Native.Nat.{◌^◌, ◌≤◌, ◌<◌}
use mathlib.Core.Path.{◌≡◌, refl, sym, ap, ◌∙◌}
use mathlib.Core.Bool.{Bool, true, false, not, ◌||◌}
use native.Mathlib.Omega.{arith}
use lib.Dec.{ltb}
use borrow.Author.Tests.{ltb-true}
use Rattle.rules.specs.declared.Locks.{Locks}
use Rattle.rules.specs.declared.Works.{Works}
use Rattle.rules.specs.WellFormed.{numbers_right}
use Rattle.why.specs.Why.{locks_sentence, numbers_sentence}
use Rattle.writing.proofs.Picks.{yes, no}

-- one of two tests
pub either : {a b s t : Bool} → a ≡ s → b ≡ t → (a || b) ≡ (s || t)
either {a} {b} {s} {t} e f = ap (λ (x : Bool). x || b) e ∙ ap (λ (y : Bool). s || y) f

pub locks_hold : (l : Locks) → 89 ≤ locks_sentence l → l.protection < 2 ^ 48
unfolding locks_sentence
locks_hold l h = go (ltb l.protection (2 ^ 48)) refl
  where
    first : ltb l.protection (2 ^ 48) ≡ false → locks_sentence l ≡ 85
    first e = sym (yes _ _ (ap not e) refl)

    go : (t : Bool) → ltb l.protection (2 ^ 48) ≡ t → l.protection < 2 ^ 48
    go true e = ltb-true l.protection (2 ^ 48) e
    go false e = let k = first e in absurd (omega arith)

pub running_holds : (w : Works) → 91 ≤ numbers_sentence w → numbers_right w.running ≡ true
unfolding numbers_sentence
running_holds w h = go (numbers_right w.running) refl
  where
    first : numbers_right w.running ≡ false → numbers_sentence w ≡ 89
    first e = sym (yes _ _ (ap not e) refl)

    go : (t : Bool) → numbers_right w.running ≡ t → numbers_right w.running ≡ true
    go true e = e
    go false e = let k = first e in absurd (omega arith)

pub suspended_holds : (w : Works) → 91 ≤ numbers_sentence w → numbers_right w.suspended ≡ true
unfolding numbers_sentence
suspended_holds w h = go (numbers_right w.suspended) refl
  where
    second : numbers_right w.suspended ≡ false → numbers_sentence w ≡ 90
    second e = sym (no _ _ (ap not (running_holds w h)) (yes _ _ (ap not e) refl))

    go : (t : Bool) → numbers_right w.suspended ≡ t → numbers_right w.suspended ≡ true
    go true e = e
    go false e = let k = second e in absurd (omega arith)
