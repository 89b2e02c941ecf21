-- Which places of the first page a program reaches, by arithmetic. Assumes nothing.
use Prim.Native.Nat.{ℕ, zero, suc, ◌+◌, ◌-◌, ◌*◌, ◌/◌, ◌%◌, ◌≤◌, ◌<◌}
use mathlib.Core.Path.{◌≡◌, refl, sym, ◌∙◌, subst}
use mathlib.Core.Bool.{true, false, ◌&&◌, ◌||◌}
use mathlib.Core.List.{List, [], ◌∷◌}
use native.Mathlib.Omega.{arith}
use native.Mathlib.Decide.{dec_lt}
use lib.Dec.{ltb}
use lib.ListN.{length, drop, length-drop}
use borrow.Author.Tests.{lt-ltb, le-ltb}
use Rattle.rules.specs.Frames.{security_address}
use Rattle.rules.specs.Programs.{reaches, reaches_first}
use Rattle.rules.proofs.Bools.{or_left, or_right}

-- byte i goes there
reaches_yes : (s p : ℕ) (xs : List ℕ) (i : ℕ) → i < length xs → s + (p + i) % 256 < 8 → reaches s p xs ≡ true
unfolding reaches
reaches_yes s p [] i h k = absurd (omega arith)
reaches_yes s p (x ∷ xs) zero h k = or_left (ltb (s + p % 256) 8) (reaches s (p + 1) xs) (lt-ltb (s + p % 256) 8 (let e : p + 0 ≡ p = omega arith in omega arith))
reaches_yes s p (x ∷ xs) (suc i) h k = or_right (ltb (s + p % 256) 8) (reaches s (p + 1) xs) (reaches_yes s (p + 1) xs i (omega arith) (let e : p + suc i ≡ p + 1 + i = omega arith in subst (λ (y : ℕ). s + y % 256 < 8) e k))

-- no byte does
reaches_no : (s p : ℕ) (xs : List ℕ) → ((i : ℕ) → i < length xs → 8 ≤ s + (p + i) % 256) → reaches s p xs ≡ false
unfolding reaches
reaches_no s p [] h = refl
reaches_no s p (x ∷ xs) h =
    let z : 8 ≤ s + p % 256 = (let k = h 0 (omega arith) in let e : p + 0 ≡ p = omega arith in omega arith) in
    rw (le-ltb (s + p % 256) 8 z)
    (reaches_no s (p + 1) xs (λ i below. let e : p + suc i ≡ p + 1 + i = omega arith in subst (λ (y : ℕ). 8 ≤ s + y % 256) e (h (suc i) (omega arith))))

-- the program is in page 0, and begins below 8 or goes past the page's end
pub reaches_first_lem : (sent : List ℕ) → 4 ≤ length sent
    → (ltb (security_address sent) 256 && (ltb (security_address sent % 256) 8 || ltb 256 (security_address sent % 256 + (length sent - 3)))) ≡ reaches_first sent
unfolding reaches_first
reaches_first_lem sent h = go (dec_lt a 256)
  where
    a : ℕ
    a = security_address sent

    n : length (drop 3 sent) ≡ length sent - 3
    n = length-drop 3 sent

    wraps : a < 256 → (8 ≤ a % 256) → Dec (256 < a % 256 + (length sent - 3)) → ltb 256 (a % 256 + (length sent - 3)) ≡ reaches (a / 256 * 256) (a % 256) (drop 3 sent)
    wraps low from (yes past) =
        lt-ltb 256 (a % 256 + (length sent - 3)) past
        ∙ sym (reaches_yes (a / 256 * 256) (a % 256) (drop 3 sent) (256 - a % 256) (omega (arith, n)) (omega arith))
    wraps low from (no within) =
        le-ltb 256 (a % 256 + (length sent - 3)) (omega arith)
        ∙ sym (reaches_no (a / 256 * 256) (a % 256) (drop 3 sent) (λ i below. omega (arith, n)))

    begins : a < 256 → Dec (a % 256 < 8) → (ltb (a % 256) 8 || ltb 256 (a % 256 + (length sent - 3))) ≡ reaches (a / 256 * 256) (a % 256) (drop 3 sent)
    begins low (yes under) =
        or_left (ltb (a % 256) 8) _ (lt-ltb (a % 256) 8 under)
        ∙ sym (reaches_yes (a / 256 * 256) (a % 256) (drop 3 sent) 0 (omega (arith, n)) (omega arith))
    begins low (no over) = rw (le-ltb (a % 256) 8 (omega arith)) (wraps low (omega arith) (dec_lt 256 (a % 256 + (length sent - 3))))

    go : Dec (a < 256) → (ltb a 256 && (ltb (a % 256) 8 || ltb 256 (a % 256 + (length sent - 3)))) ≡ reaches (a / 256 * 256) (a % 256) (drop 3 sent)
    go (yes low) = rw (lt-ltb a 256 low) (begins low (dec_lt (a % 256) 8))
    go (no high) = rw (le-ltb a 256 (omega arith)) (sym (reaches_no (a / 256 * 256) (a % 256) (drop 3 sent) (λ i below. omega arith)))
