-- Laws of first places. Assumes nothing.
use Prim.Native.Nat.{ℕ, ◌≤◌, ◌<◌}
use mathlib.Core.Path.{◌≡◌, sym, ◌∙◌}
use mathlib.Core.Bool.{Bool, true, false, true≢false, not, ◌&&◌}
use lib.Dec.{eqb}
use lib.ListN.{get_or, drop}
use lib.Seq.{get_or-drop}
use native.Mathlib.Omega.{arith}
use native.Mathlib.Decide.{dec_lt}
use mathlib.Core.List.{List, [], ◌∷◌}
use mathlib.Core.Path.{refl, ap}
use borrow.Author.Tests.{ne_eqb}
use Prim.Native.Nat.{◌+◌, ◌%◌}
use Rattle.std.specs.Prelude.{MatchOption}
use Rattle.std.specs.List.{list_all}
use Rattle.std.specs.declared.option.Option.TheVariants.{None, Some}
use Rattle.std.specs.declared.option.Option.{Option}
use Rattle.std.specs.Option.{unwrap_or}
use Rattle.rules.specs.Words.{every}
use Rattle.expecting.specs.Expectations.{First, unheld, unheld_at}

-- there is one first place
pub first_one : (test : ℕ → Bool) (n r r' : ℕ) → First test n r → First test n r' → r ≡ r'
first_one test n r r' p q = go (dec_lt r r') (dec_lt r' r)
  where
    go : Dec (r < r') → Dec (r' < r) → r ≡ r'
    go (yes h) d = let w = q.within in absurd (true≢false (sym (p.there (omega arith)) ∙ q.before r h))
    go (no h) (yes k) = let w = p.within in absurd (true≢false (sym (q.there (omega arith)) ∙ p.before r' k))
    go (no h) (no k) = omega arith

-- what a search of the numbers below n finds, or n, is the first place
pub first_found : (test : ℕ → Bool) (n : ℕ) (r : Option ℕ)
    → MatchOption r ((k : ℕ) → 0 ≤ k → k < n → test k ≡ false) (λ i. (0 ≤ i) × (i < n) × (test i ≡ true) × ((k : ℕ) → 0 ≤ k → k < i → test k ≡ false))
    → First test n (unwrap_or r n)
first_found test n None h = record { within = omega arith; before = λ i l. h i (omega arith) l; there = λ l. absurd (omega arith) }
first_found test n (Some i) h = record { within = omega arith; before = λ k l. h.3 k (omega arith) l; there = λ l. h.2 }

-- where bytes are expected, the one at i is compared: of a memory, or of what it holds from a place on
pub compared_at : (memory : List ℕ) (from : ℕ) (expected known : List ℕ) (count i : ℕ) → (count ≡ 0 → ⊥)
    → unheld memory from expected known count i ≡ unheld_at memory (from + i) expected known (i % count)
unfolding unheld
compared_at memory from expected known count i some = rw (ne_eqb _ _ some)

pub compared_from : (memory : List ℕ) (from : ℕ) (expected known : List ℕ) (count i : ℕ) → (count ≡ 0 → ⊥)
    → unheld memory from expected known count i ≡ unheld_at (drop from memory) i expected known (i % count)
unfolding unheld_at
compared_from memory from expected known count i some =
    compared_at memory from expected known count i some
    ∙ ap (λ (b : ℕ). not (eqb (get_or known (i % count) 0) 0) && not (eqb b (get_or expected (i % count) 0))) (sym (get_or-drop from memory i 0))

-- the test holds at each entry: as the library says it
pub every_is : (t : ℕ → Bool) (xs : List ℕ) → list_all t xs ≡ every t xs
every_is t [] = refl
every_is t (x ∷ xs) = ap (λ b. t x && b) (every_is t xs)
