-- A loop that stores one byte after the other patches a list. Assumes nothing.
use Prim.Native.Nat.{ℕ, ◌+◌, ◌≤◌, ◌<◌}
use mathlib.Core.Path.{◌≡◌, refl, sym, ◌∙◌}
use mathlib.Core.List.{List}
use native.Mathlib.Omega.{arith}
use native.Mathlib.Decide.{ℕ_discrete, dec_lt}
use native.Mathlib.Nat.{zero-add}
use lib.ListN.{length, get_or, set, replicate, length-set, length-replicate, get_or-replicate}
use lib.Seq.{ext_get_or, get_or-set_same, get_or-set_other}
use Rattle.memory.specs.Patched.{Patched}

pub patched_none : (l : List ℕ) (from : ℕ) (f : ℕ → ℕ) → Patched l l from 0 f
patched_none l from f = record { size = refl; inside = λ i h. absurd (omega arith); before = λ a h. refl; after = λ a h. refl }

pub patched_more : (l l₀ : List ℕ) (from n v : ℕ) (f : ℕ → ℕ) → Patched l l₀ from n f → from + n < length l₀ → v ≡ f n → Patched (set l (from + n) v) l₀ from (n + 1) f
patched_more l l₀ from n v f h fits e =
    record {
      size = length-set l (from + n) v ∙ h.size;
      inside = λ i below. go i below (ℕ_discrete i n);
      before = λ a below. get_or-set_other l (from + n) a v 0 (λ q. omega arith) ∙ h.before a below;
      after = λ a above. get_or-set_other l (from + n) a v 0 (λ q. omega arith) ∙ h.after a (omega arith);
    }
  where
    go : (i : ℕ) → i < n + 1 → Dec (i ≡ n) → get_or (set l (from + n) v) (from + i) 0 ≡ f i
    go i below (yes q) = rw q (get_or-set_same l (from + n) v 0 (let s = h.size in omega arith) ∙ e)
    go i below (no q) = get_or-set_other l (from + n) (from + i) v 0 (λ p. q (omega arith)) ∙ h.inside i (omega arith)

-- what the loop has not reached yet is as it was
pub patched_next : (l l₀ : List ℕ) (from n : ℕ) (f : ℕ → ℕ) → Patched l l₀ from n f → get_or l (from + n) 0 ≡ get_or l₀ (from + n) 0
patched_next l l₀ from n f h = h.after (from + n) (omega arith)

-- what lies behind a patch is as it was: a patch of more, by what says so of it
pub patched_to : (l l₀ : List ℕ) (from m n : ℕ) (f g : ℕ → ℕ) → Patched l l₀ from m f → m ≤ n → ((i : ℕ) → i < m → f i ≡ g i)
    → ((i : ℕ) → m ≤ i → i < n → get_or l₀ (from + i) 0 ≡ g i) → Patched l l₀ from n g
patched_to l l₀ from m n f g h le same rest =
    record {
      size = h.size;
      inside = λ i below. go i below (dec_lt i m);
      before = h.before;
      after = λ a above. h.after a (omega arith);
    }
  where
    go : (i : ℕ) → i < n → Dec (i < m) → get_or l (from + i) 0 ≡ g i
    go i below (yes q) = h.inside i q ∙ same i q
    go i below (no q) = h.after (from + i) (omega arith) ∙ rest i (omega arith) below

-- a patch of the whole with one value
pub patched_whole : (l l₀ : List ℕ) (n v : ℕ) → length l₀ ≡ n → Patched l l₀ 0 n (λ i. v) → l ≡ replicate n v
patched_whole l l₀ n v e p =
    ext_get_or 0 l (replicate n v) (p.size ∙ e ∙ sym (length-replicate n v))
    (λ i below. let h : i < n = let s = p.size in omega arith in (rw zero-add at (p.inside i h)) ∙ sym (get_or-replicate n i v 0 h))
