-- A patch of the first k bytes of a range, with byte k torn, is what stopping the work gives. Assumes nothing.
use Prim.Native.Nat.{ℕ, ◌+◌, ◌-◌, ◌≤◌, ◌<◌, min}
use mathlib.Core.Path.{◌≡◌, refl, sym, ap, ◌∙◌, subst}
use mathlib.Core.Bool.{true}
use mathlib.Core.List.{List}
use native.Mathlib.Omega.{arith}
use native.Mathlib.Decide.{dec_lt, dec_le}
use lib.ListN.{length, get_or, set}
use borrow.Author.Tests.{ltb-true, lt-ltb, le-ltb, eq-eqb, ne_eqb}
use Rattle.rules.specs.declared.Range.{Range}
use Rattle.rules.specs.declared.Tear.{Tear}
use Rattle.rules.specs.declared.Work.{Work}
use Rattle.rules.specs.Words.{range, nowhere, holds, Lent, lent}
use Rattle.rules.specs.declared.Block.{Block}
use Rattle.rules.specs.Blocks.{array_size_lem, block_at, span}
use Rattle.rules.specs.Works.{array_range, finished, torn, stopped, finish}
use Rattle.rules.specs.WellFormed.{numbers_right}
use Rattle.rules.proofs.Bools.{never}
use Rattle.rules.proofs.Blocks.{holds_at, holds_intro, block_placed}
use Rattle.rules.proofs.Effects.{finish_inside, finish_outside}
use Rattle.rules.proofs.Promises.{lent_ext}
use Rattle.memory.specs.Patched.{Patched}
use Rattle.memory.proofs.Patched.{patched_none, patched_more, patched_next, patched_to}

-- ---- the bytes of one work

module _ (w : Work) (b l₀ : List ℕ) (from n : ℕ) (t : Tear) where
  abbrev done : ℕ → ℕ
  done i = finished w b i (get_or l₀ (from + i) 0)

  abbrev left : ℕ → ℕ
  left i = stopped w b t i (get_or l₀ (from + i) 0)

  early : (i : ℕ) → i < t.k → done i ≡ left i
  early i h = rw (lt-ltb i t.k h)

  -- all of them
  pub patched_whole : (l : List ℕ) (m : ℕ) → m ≡ min t.k n → n ≤ m → Patched l l₀ from m done → Patched l l₀ from n left
  patched_whole l m e h p = patched_to l l₀ from m n done left p (omega arith) (λ i below. early i (omega arith)) (λ i low high. absurd (omega arith))

  -- byte k torn
  pub patched_torn : (l : List ℕ) (m v : ℕ) → m ≡ min t.k n → m < n → from + n ≤ length l₀ → Patched l l₀ from m done → v ≡ torn w b t.m m (get_or l (from + m) 0)
      → Patched (set l (from + m) v) l₀ from n left
  patched_torn l m v e h fits p ev =
      let k : m ≡ t.k = omega arith in
      let q = patched_to l l₀ from m m done left p (omega arith) (λ i below. early i (omega arith)) (λ i low high. absurd (omega arith)) in
      let one = patched_more l l₀ from m v left q (omega arith)
      (ev ∙ ap (torn w b t.m m) (patched_next l l₀ from m done p) ∙ sym (rw (le-ltb m t.k (omega arith), eq-eqb m t.k k))) in
      patched_to (set l (from + m) v) l₀ from (m + 1) n left left one (omega arith) (λ i below. refl) (λ i low high. sym (rw (le-ltb i t.k (omega arith), ne_eqb i t.k (λ z. omega arith))))

-- ---- a memory

same_size : (w : Work) (r : Range) (b : List ℕ) (t : Tear) (m : Lent) → (finish w r b t m).size ≡ m.size
unfolding finish
same_size w r b t m = refl

patch_finishes : (w : Work) (s z : ℕ) (t : Tear) (b l l₀ : List ℕ) → Patched l l₀ s z (λ i. stopped w b t i (get_or l₀ (s + i) 0)) → lent l ≡ finish w (range s z) b t (lent l₀)
patch_finishes w s z t b l l₀ p =
    lent_ext (p.size ∙ sym (same_size w (range s z) b t (lent l₀))) (λ a. from a (dec_le s a) (dec_lt a (s + z)))
  where
    from : (a : ℕ) → Dec (s ≤ a) → Dec (a < s + z) → get_or l a 0 ≡ (finish w (range s z) b t (lent l₀)).byte a
    from a (yes low) (yes high) =
        let q : s + (a - s) ≡ a = omega arith in
        ap (λ (x : ℕ). get_or l x 0) (sym q) ∙ p.inside (a - s) (omega arith)
        ∙ ap (λ (x : ℕ). stopped w b t (a - s) (get_or l₀ x 0)) q
        ∙ sym (finish_inside w (range s z) b t (lent l₀) a (holds_intro (range s z) a low high))
    from a (yes low) (no high) =
        p.after a (omega arith)
        ∙ sym (finish_outside w (range s z) b t (lent l₀) a (never (holds (range s z) a) (λ h. high (holds_at (range s z) a h).1)))
    from a (no below) d =
        p.before a (omega arith)
        ∙ sym (finish_outside w (range s z) b t (lent l₀) a (never (holds (range s z) a) (λ h. below (holds_at (range s z) a h).0)))

-- work w of kind v, its range found by f: a patch of the range stops it
pub finishes : (f : Work → Range) (w v : Work) (t : Tear) (b l l₀ : List ℕ) → w ≡ v
    → Patched l l₀ (f v).start (f v).size (λ i. stopped v b t i (get_or l₀ ((f v).start + i) 0)) → lent l ≡ finish w (f w) b t (lent l₀)
finishes f w v t b l l₀ e p = patch_finishes v (f v).start (f v).size t b l l₀ p ∙ ap (λ (w : Work). finish w (f w) b t (lent l₀)) (sym e)

-- no range, no change
pub finishes_none : (f : Work → Range) (w : Work) (t : Tear) (b l : List ℕ) → nowhere ≡ f w → lent l ≡ finish w (f w) b t (lent l)
finishes_none f w t b l e = patch_finishes w 0 0 t b l l (patched_none l 0 _) ∙ ap (λ (r : Range). finish w r b t (lent l)) e

-- a block's range, as it was found
pub finishes_block : (w : Work) (n : ℕ) (t : Tear) (r : Block) (b l l₀ : List ℕ) → w ≡ Work.EraseBlock n → r ≡ block_at n
    → Patched l l₀ r.start r.size (λ i. stopped (Work.EraseBlock n) b t i (get_or l₀ (r.start + i) 0)) → lent l ≡ finish w (array_range w) b t (lent l₀)
finishes_block w n t r b l l₀ e q p =
    patch_finishes (Work.EraseBlock n) r.start r.size t b l l₀ p ∙ ap (λ (x : Block). finish (Work.EraseBlock n) (span x) b t (lent l₀)) q
    ∙ ap (λ (w : Work). finish w (array_range w) b t (lent l₀)) (sym e)

pub block_fits : (n : ℕ) (r : Block) → n < 40 → r ≡ block_at n → r.start + r.size ≤ array_size_lem
block_fits n r h e = rw e (block_placed n h).inside

pub security_number : (w : Work) (n : ℕ) → w ≡ Work.ProgramSecurity n → numbers_right w ≡ true → n < 8
security_number w n e h = ltb-true n 8 (subst (λ (w : Work). numbers_right w ≡ true) e h)
