-- A burst's reply: its first turn in two pieces, and that turn again and again. Over any length that divides a page. Assumes nothing.
use Prim.Native.Nat.{ℕ, ◌+◌, ◌-◌, ◌%◌, ◌≤◌, ◌<◌, min}
use mathlib.Core.Path.{◌≡◌, sym, ap, ◌∙◌, subst}
use mathlib.Core.List.{List}
use native.Mathlib.Nat.{zero-add, mod-lt}
use native.Mathlib.Omega.{arith}
use lib.ListN.{length}
use Rattle.rules.specs.declared.Cell.{Cell}
use Rattle.rules.specs.declared.Range.{Range}
use Rattle.rules.specs.Words.{lent}
use Rattle.rules.specs.Bursts.{burst_place, Divides}
use Rattle.rules.specs.Reading.{place_cell}
use Rattle.rules.proofs.Bursts.{burst_start, burst_rest, burst_turn}
use Rattle.memory.specs.Patched.{Patched, Repeated}
use Rattle.reading.specs.Upto.{Upto, burst_cell}
use Rattle.reading.proofs.Upto.{upto_none, upto_piece}

-- of each cell its byte, or its mark
module _ (p : ℕ) (r : Range) (array : List ℕ) (n a : ℕ) (d : Divides n) (part : Cell → ℕ) where
  abbrev at_place : ℕ → ℕ
  at_place x = part (place_cell p r (lent array) x)

  abbrev burst : ℕ → ℕ
  burst i = part (burst_cell p r array n a i)

  -- the piece up to the group's end
  high : (l l₀ : List ℕ) (h : ℕ) → h ≡ min (n - a % n) (length l₀) → Patched l l₀ 0 h (λ j. at_place (a + j)) → Upto l (length l₀) h burst
  high l l₀ h e q =
      subst (λ (k : ℕ). Upto l (length l₀) k burst) (zero-add h)
      (upto_piece l l₀ (length l₀) 0 h burst _ (upto_none l₀ burst) q
      (λ j below. ap at_place (sym (burst_start n a d.some j (omega arith)) ∙ ap (burst_place n a) (sym (zero-add j)))))

  -- which is the whole reply
  pub turn_short : (l l₀ : List ℕ) (h : ℕ) → h ≡ min (n - a % n) (length l₀) → length l₀ ≤ h → Patched l l₀ 0 h (λ j. part (place_cell p r (lent array) (a + j)))
      → Upto l (length l₀) (min n (length l₀)) (λ i. part (burst_cell p r array n a i))
  turn_short l l₀ h e long q =
      let s : h ≡ min n (length l₀) = (let m = mod-lt a d.some in omega arith) in
      subst (λ (k : ℕ). Upto l (length l₀) k burst) s (high l l₀ h e q)

  -- and the piece from the group's start
  pub turn_whole : (l l₁ l₀ : List ℕ) (h m : ℕ) → h ≡ min (n - a % n) (length l₀) → h < length l₀ → m ≡ min (a % n) (length l₀ - h)
      → Patched l₁ l₀ 0 h (λ j. part (place_cell p r (lent array) (a + j))) → Patched l l₁ h m (λ j. part (place_cell p r (lent array) (a - a % n + j)))
      → Upto l (length l₀) (min n (length l₀)) (λ i. part (burst_cell p r array n a i))
  turn_whole l l₁ l₀ h m e short f q w =
      let b = mod-lt a d.some in
      let s : h + m ≡ min n (length l₀) = omega arith in
      let g : h ≡ n - a % n = omega arith in
      subst (λ (k : ℕ). Upto l (length l₀) k burst) s
      (upto_piece l l₁ (length l₀) h m burst _ (high l₁ l₀ h e q) w
      (λ j below. ap at_place (sym (burst_rest n a d.some j (omega arith)) ∙ ap (λ (x : ℕ). burst_place n a (x + j)) (sym g))))

  -- all turns are the first
  pub turns_all : (l l₁ : List ℕ) (z : ℕ) → Upto l₁ z (min n z) (λ i. part (burst_cell p r array n a i)) → n < z → Repeated l l₁ n
      → Upto l z z (λ i. part (burst_cell p r array n a i))
  turns_all l l₁ z h more q =
      let s = h.size in
      record {
        size = q.size ∙ s;
        at = λ i below. q.at i (omega arith) ∙ h.at (i % n) (let m = mod-lt i d.some in omega arith) ∙ ap at_place (burst_turn n a d.some i);
      }
