-- The first locked block. Assumes nothing.
use Prim.Native.Nat.{ℕ, zero, suc, ◌+◌, ◌-◌, ◌≤◌, ◌<◌}
use mathlib.Core.Path.{◌≡◌, refl, sym, ap, ◌∙◌}
use mathlib.Core.Bool.{true, false}
use native.Mathlib.Omega.{arith}
use Rattle.std.specs.Prelude.{MatchOption}
use Rattle.std.specs.declared.option.Option.TheVariants.{None, Some}
use Rattle.std.specs.declared.option.Option.{Option}
use Rattle.std.specs.Option.{unwrap_or}
use Rattle.rules.specs.Words.{bit, pick}
use Rattle.rules.specs.Blocks.{block_at}
use Rattle.locked.specs.Locked.{locked_from}
use Rattle.writing.proofs.Picks.{yes, no}

locked_step : (k p i : ℕ) → locked_from (suc k) p i ≡ pick (bit (block_at i).write p) i (locked_from k p (i + 1))
unfolding locked_from
locked_step k p i = refl

one_fewer : (i : ℕ) → i < 40 → 40 - i ≡ suc (40 - (i + 1))
one_fewer i h = omega arith

pub locked_here : (p i : ℕ) → i < 40 → bit (block_at i).write p ≡ true → i ≡ locked_from (40 - i) p i
locked_here p i h e =
    yes _ _ e refl ∙ sym (ap (λ (k : ℕ). locked_from k p i) (one_fewer i h) ∙ locked_step (40 - (i + 1)) p i)

pub locked_later : (p i : ℕ) → i < 40 → bit (block_at i).write p ≡ false → locked_from (40 - i) p i ≡ locked_from (40 - (i + 1)) p (i + 1)
locked_later p i h e =
    ap (λ (k : ℕ). locked_from k p i) (one_fewer i h) ∙ locked_step (40 - (i + 1)) p i ∙ sym (no _ _ e refl)

pub locked_none : (p i : ℕ) → 40 ≤ i → 0 ≡ locked_from (40 - i) p i
unfolding locked_from
locked_none p i h = let e : 40 - i ≡ 0 = omega arith in sym (ap (λ (k : ℕ). locked_from k p i) e)

-- before n no write lock is set
none_before : (p n : ℕ) → n ≤ 40 → ((k : ℕ) → k < n → bit (block_at k).write p ≡ false) → locked_from 40 p 0 ≡ locked_from (40 - n) p n
none_before p zero h none = refl
none_before p (suc n) h none =
    let next : n + 1 ≡ suc n = omega arith in
    none_before p n (omega arith) (λ k t. none k (omega arith)) ∙ locked_later p n (omega arith) (none n (omega arith))
    ∙ ap (λ (k : ℕ). locked_from (40 - k) p k) next

-- what a search of the blocks finds, or 0, is the first one
pub locked_found : (p : ℕ) (r : Option ℕ)
    → MatchOption r ((k : ℕ) → 0 ≤ k → k < 40 → bit (block_at k).write p ≡ false)
    (λ i. (0 ≤ i) × (i < 40) × (bit (block_at i).write p ≡ true) × ((k : ℕ) → 0 ≤ k → k < i → bit (block_at k).write p ≡ false))
    → (unwrap_or r 0 ≡ locked_from 40 p 0) × (unwrap_or r 0 < 40)
locked_found p None h =
    (locked_none p 40 (omega arith) ∙ sym (none_before p 40 (omega arith) (λ k t. h k (omega arith) t)), omega arith)
locked_found p (Some i) h =
    (locked_here p i h.1 h.2 ∙ sym (none_before p i (omega arith) (λ k t. h.3 k (omega arith) t)), h.1)
