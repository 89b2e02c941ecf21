-- Runs of groups with the same locks. Assumes nothing.
use Prim.Native.Nat.{ℕ, zero, suc, ◌+◌, ◌-◌, ◌≤◌, ◌<◌}
use mathlib.Core.Path.{◌≡◌, refl, sym, ap, ◌∙◌}
use mathlib.Core.Bool.{true, false}
use native.Mathlib.Omega.{arith}
use lib.Dec.{eqb}
use Rattle.std.specs.Prelude.{MatchOption}
use Rattle.std.specs.declared.option.Option.TheVariants.{None, Some}
use Rattle.std.specs.declared.option.Option.{Option}
use Rattle.std.specs.Option.{unwrap_or}
use borrow.Author.Tests.{eq-eqb, ne_eqb}
use Rattle.rules.specs.Words.{pick}
use Rattle.rows.specs.Questions.{lock_state, run_end}
use Rattle.writing.proofs.Picks.{yes, no}

one_step : (s p q h : ℕ) → h < 256 → run_end (256 - h) s p q h ≡ pick (eqb (lock_state h p q) s) (run_end (256 - (h + 1)) s p q (h + 1)) h
unfolding run_end
one_step s p q h t =
    let e : 256 - h ≡ suc (256 - (h + 1)) = omega arith in
    ap (λ (k : ℕ). run_end k s p q h) e

pub run_on : (s p q h : ℕ) → h < 256 → eqb (lock_state h p q) s ≡ true → run_end (256 - h) s p q h ≡ run_end (256 - (h + 1)) s p q (h + 1)
run_on s p q h t e = one_step s p q h t ∙ sym (yes _ _ e refl)

pub run_over : (s p q h : ℕ) → h < 256 → eqb (lock_state h p q) s ≡ false → run_end (256 - h) s p q h ≡ h
run_over s p q h t e = one_step s p q h t ∙ sym (no _ _ e refl)

pub run_whole : (s p q h : ℕ) → 256 ≤ h → run_end (256 - h) s p q h ≡ h
unfolding run_end
run_whole s p q h t = let e : 256 - h ≡ 0 = omega arith in ap (λ (k : ℕ). run_end k s p q h) e

-- to h all groups have the locks s
run_kept : (m s p q g h : ℕ) → g + m ≡ h → h ≤ 256 → ((k : ℕ) → g ≤ k → k < h → lock_state k p q ≡ s) → run_end (256 - g) s p q g ≡ run_end (256 - h) s p q h
run_kept zero s p q g h e t all = let same : g ≡ h = omega arith in ap (λ (x : ℕ). run_end (256 - x) s p q x) same
run_kept (suc m) s p q g h e t all =
    run_on s p q g (omega arith) (eq-eqb _ _ (all g (omega arith) (omega arith)))
    ∙ run_kept m s p q (g + 1) h (omega arith) t (λ k x y. all k (omega arith) y)

-- what a search of the groups from g on finds, or 256, is the run's end
pub run_found : (s p q g : ℕ) (r : Option ℕ) → g ≤ 256
    → MatchOption r ((k : ℕ) → g ≤ k → k < 256 → lock_state k p q ≡ s)
    (λ i. (g ≤ i) × (i < 256) × (lock_state i p q ≡ s → ⊥) × ((k : ℕ) → g ≤ k → k < i → lock_state k p q ≡ s))
    → (unwrap_or r 256 ≡ run_end (256 - g) s p q g) × (unwrap_or r 256 ≤ 256) × (g ≤ unwrap_or r 256)
run_found s p q g None t h =
    (sym (run_kept (256 - g) s p q g 256 (omega arith) (omega arith) h ∙ run_whole s p q 256 (omega arith)), omega arith, t)
run_found s p q g (Some i) t h =
    (sym (run_kept (i - g) s p q g i (omega arith) (omega arith) h.3 ∙ run_over s p q i h.1 (ne_eqb _ _ h.2)), omega arith, h.0)
