-- Memories of which a part was lent. Assumes nothing.
use Prim.Native.Nat.{ℕ, ◌+◌, ◌-◌, ◌≤◌}
use mathlib.Core.Path.{◌≡◌, refl, sym, ap, ◌∙◌}
use mathlib.Core.Bool.{Bool, true, false}
use mathlib.Core.List.{List, ◌++◌}
use native.Mathlib.Omega.{arith}
use lib.Dec.{ltb}
use lib.ListN.{length, get_or, take, drop, replicate, get_or-append, length-replicate, get_or-replicate}
use Rattle.std.proofs.Common.{length-append, length-drop}
use lib.Seq.{get_or-take, get_or-drop, length-take-le, length_front, get_or-append-add}
use borrow.Author.Tests.{ltb-true, ltb-false}
use Rattle.rules.specs.Words.{pick, Lent, lent, written, unlent}
use Rattle.rules.proofs.Promises.{lent_ext, lent_written}
use Rattle.memory.specs.Patched.{Patched}
use Rattle.lending.specs.Lending.{over}

-- the part changed in place, and what stands behind it
pub part_over : (l p : List ℕ) (n : ℕ) (o : Lent) → n ≤ length l → length p ≡ length (take n l) → lent p ≡ o → lent (p ++ drop n l) ≡ over o l
part_over l p n o fits kept e =
    lent_ext (length_front l p n kept)
    (λ i. go i (ltb i (length p)) refl ∙ ap (λ (o : Lent). pick (ltb i o.size) (o.byte i) (get_or l i 0)) e)
  where
    size : length p ≡ n
    size = kept ∙ length-take-le n l fits

    go : (i : ℕ) (b : Bool) → ltb i (length p) ≡ b → get_or (p ++ drop n l) i 0 ≡ pick (ltb i (length p)) (get_or p i 0) (get_or l i 0)
    go i true q = rw q (get_or-append p (drop n l) 0 i (ltb-true i (length p) q))
    go i false q =
        let past = ltb-false i (length p) q in
        let here : length p + (i - length p) ≡ i = omega arith in
        rw q (ap (λ (k : ℕ). get_or (p ++ drop n l) k 0) (sym here)
        ∙ get_or-append-add p (drop n l) (i - length p) 0
        ∙ get_or-drop n l (i - length p) 0
        ∙ ap (λ (k : ℕ). get_or l k 0) (ap (λ (m : ℕ). m + (i - length p)) (sym size) ∙ here))

-- nothing was lent
pub none_over : (l : List ℕ) → lent l ≡ over unlent l
none_over l = lent_ext refl (λ i. go i (ltb i 0) refl)
  where
    go : (i : ℕ) (b : Bool) → ltb i 0 ≡ b → get_or l i 0 ≡ pick b 0 (get_or l i 0)
    go i true q = absurd (let h = ltb-true i 0 q in omega arith)
    go i false q = refl

-- a part of so many bytes that was filled first
pub part_written : (l l₀ : List ℕ) (n v : ℕ) → n ≤ length l₀ → Patched l l₀ 0 n (λ i. v) → lent (take n l) ≡ written n (λ i. v)
part_written l l₀ n v fits p =
    lent_written (take n l) n (λ i. v) (length-take-le n l (omega (arith, p.size)))
    (λ i below. let z : 0 + i ≡ i = omega arith in get_or-take n l i 0 below ∙ ap (λ (k : ℕ). get_or l k 0) (sym z) ∙ p.inside i below)

-- and what stands behind it was not
pub over_patched : (l l₀ : List ℕ) (n v : ℕ) (o : Lent) → o.size ≡ n → Patched l l₀ 0 n (λ i. v) → over o l ≡ over o l₀
over_patched l l₀ n v o e p = lent_ext p.size (λ i. go i (ltb i o.size) refl)
  where
    go : (i : ℕ) (b : Bool) → ltb i o.size ≡ b → pick b (o.byte i) (get_or l i 0) ≡ pick b (o.byte i) (get_or l₀ i 0)
    go i true q = refl
    go i false q = p.after i (let h = ltb-false i o.size q in omega arith)

-- a part that is filled, and what stands behind it
pub filled_part : (l p : List ℕ) (n v : ℕ) → n ≤ length l → p ≡ replicate n v → Patched (p ++ drop n l) l 0 n (λ i. v)
filled_part l p n v fits e =
    record {
      size = omega (arith, length-append {A = ℕ}, length-drop {A = ℕ}, size);
      inside = λ i h. let z : 0 + i ≡ i = omega arith in
          ap (λ (k : ℕ). get_or (p ++ drop n l) k 0) z ∙ get_or-append p (drop n l) 0 i (omega (arith, size)) ∙ ap (λ (q : List ℕ). get_or q i 0) e ∙ get_or-replicate n i v 0 h;
      before = λ a h. absurd (omega arith);
      after = λ a h.
          let here : length p + (a - n) ≡ a = omega (arith, size) in
          let there : n + (a - n) ≡ a = omega arith in
          ap (λ (k : ℕ). get_or (p ++ drop n l) k 0) (sym here) ∙ get_or-append-add p (drop n l) (a - n) 0 ∙ get_or-drop n l (a - n) 0 ∙ ap (λ (k : ℕ). get_or l k 0) there;
    }
  where
    size : length p ≡ n
    size = ap length e ∙ length-replicate n v
