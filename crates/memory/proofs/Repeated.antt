-- Turns of n bytes, one behind the other. Assumes nothing.
use Prim.Native.Nat.{ℕ, ◌+◌, ◌-◌, ◌%◌, ◌≤◌, ◌<◌, min}
use mathlib.Core.Path.{◌≡◌, sym, ap, ◌∙◌}
use mathlib.Core.List.{List, ◌++◌}
use mathlib.Core.Logic.{◌⊎◌, inl, inr}
use native.Mathlib.Nat.{mod-eq_of_lt, mod-add-mod, zero-add}
use native.Mathlib.Omega.{arith}
use native.Mathlib.Decide.{dec_lt}
use Rattle.std.proofs.lemmas.Grind.{common_steps}
use lib.ListN.{length, get_or, take, drop}
use Rattle.memory.specs.Patched.{Patched}

-- the first turn is there
pub turned_first : (l : List ℕ) (n i : ℕ) → i < n → get_or l i 0 ≡ get_or l (i % n) 0
turned_first l n i h = ap (λ (k : ℕ). get_or l k 0) (sym (mod-eq_of_lt h))

-- behind whole turns a place counts as from the start
past_turns : (n d x : ℕ) → d % n ≡ 0 → (d + x) % n ≡ x % n
past_turns n d x e = sym (mod-add-mod d n x) ∙ ap (λ (y : ℕ). (y + x) % n) e ∙ ap (λ (y : ℕ). y % n) (zero-add x)

-- m more bytes that are the first m
pub turned_more : (l k l₀ : List ℕ) (n d m : ℕ) → d % n ≡ 0 → m ≤ d → ((i : ℕ) → i < d → get_or k i 0 ≡ get_or l₀ (i % n) 0) → Patched l k d m (λ i. get_or k i 0)
    → (i : ℕ) → i < d + m → get_or l i 0 ≡ get_or l₀ (i % n) 0
turned_more l k l₀ n d m e short h p i below = go (dec_lt i d)
  where
    go : Dec (i < d) → get_or l i 0 ≡ get_or l₀ (i % n) 0
    go (yes q) = p.before i q ∙ h i q
    go (no q) =
        let s : d + (i - d) ≡ i = omega arith in
        ap (λ (x : ℕ). get_or l x 0) (sym s) ∙ p.inside (i - d) (omega arith) ∙ h (i - d) (omega arith)
        ∙ ap (λ (x : ℕ). get_or l₀ x 0) (sym (past_turns n d (i - d) e) ∙ ap (λ (x : ℕ). x % n) s)

-- whole turns twice are whole turns; what does not fit goes to the end
pub turns_more : (n d z m : ℕ) → d % n ≡ 0 → d ≤ z → m ≡ min d (z - d) → (d + m ≡ z) ⊎ ((d + m) % n ≡ 0)
turns_more n d z m e h f = go (dec_lt d (z - d))
  where
    go : Dec (d < z - d) → (d + m ≡ z) ⊎ ((d + m) % n ≡ 0)
    go (yes q) = let s : m ≡ d = omega arith in inr (ap (λ (x : ℕ). (d + x) % n) s ∙ past_turns n d d e ∙ e)
    go (no q) = inl (omega arith)

-- the list cut at d, with the first m bytes of the front put at the start of the rest
pub turn_added : (s t r x : List ℕ) (d m : ℕ) → t ≡ take d s → r ≡ drop d s → Patched x r 0 m (λ i. get_or t (0 + i) 0) → m ≤ d → d + m ≤ length s
    → Patched (t ++ x) s d m (λ i. get_or s i 0)
turn_added s t r x d m et er p h fits =
    let size = p.size in
    let inside = p.inside in
    let after = p.after in
    record {
      size = grind (arith, common_steps);
      inside = λ i below. let e = inside i below in grind (arith, common_steps);
      before = λ a below. grind (arith, common_steps);
      after = λ a above. let e = after (a - d) (omega arith) in grind (arith, common_steps);
    }
