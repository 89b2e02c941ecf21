-- Steps of the reads. Assumes nothing.
use Prim.Native.Nat.{ℕ, ◌+◌, ◌-◌, ◌/◌, ◌%◌, ◌≤◌, ◌<◌, min}
use mathlib.Core.Path.{◌≡◌, refl, sym, ap, ◌∙◌, subst}
use mathlib.Core.Bool.{Bool, true, false}
use mathlib.Core.List.{List}
use native.Mathlib.Omega.{arith}
use native.Mathlib.Decide.{dec_lt}
use lib.Dec.{ltb}
use lib.ListN.{length, get_or}
use borrow.Author.Tests.{ltb-true, ltb-false}
use Rattle.rules.specs.declared.Range.{Range}
use Rattle.rules.specs.Words.{pick, holds, Lent}
use Rattle.rules.specs.Blocks.{array_size_lem, read_locked}
use Rattle.rules.specs.Reading.{place_cell}
use Rattle.rules.proofs.Bools.{same_test}
use Rattle.rules.proofs.Blocks.{sector_in_one, holds_at, holds_intro}
use Rattle.rules.proofs.Effects.{read_locked_place, suspended_place, stored_place}
use Rattle.memory.specs.Patched.{Patched}
use Rattle.reading.specs.Upto.{Upto, Pages}

pub upto_none : (l : List ℕ) (f : ℕ → ℕ) → Upto l (length l) 0 f
upto_none l f = record { size = refl; at = λ i h. absurd (omega arith) }

-- a whole piece more
pub upto_piece : (l l₀ : List ℕ) (n k m : ℕ) (f g : ℕ → ℕ) → Upto l₀ n k f → Patched l l₀ k m g → ((j : ℕ) → j < m → g j ≡ f (k + j)) → Upto l n (k + m) f
upto_piece l l₀ n k m f g h p e = record { size = p.size ∙ h.size; at = λ i below. go i below (dec_lt i k) }
  where
    go : (i : ℕ) → i < k + m → Dec (i < k) → get_or l i 0 ≡ f i
    go i below (yes q) = p.before i q ∙ h.at i q
    go i below (no q) =
        let s : k + (i - k) ≡ i = omega arith in
        ap (λ (x : ℕ). get_or l x 0) (sym s) ∙ p.inside (i - k) (omega arith) ∙ e (i - k) (omega arith) ∙ ap f s

-- ---- among places that are alike nothing changes

same_lock : (p a j : ℕ) → (a + j) / 4096 ≡ a / 4096 → read_locked p (a + j) ≡ read_locked p a
unfolding read_locked
same_lock p a j e = rw (sector_in_one (a + j) a e)

abbrev pub Alike : Range → ℕ → ℕ → Type 0
Alike r a n = (j : ℕ) → j < n → ((a + j) / 4096 ≡ a / 4096) × (holds r (a + j) ≡ holds r a)

module _ (p : ℕ) (r : Range) (m : Lent) (a n : ℕ) (alike : Alike r a n) where
  pub locked_piece : (x : Bool) → x ≡ read_locked p a → x ≡ true → (j : ℕ) → j < n → place_cell p r m (a + j) ≡ record { byte = 0; mark = 1 }
  locked_piece x e t j h = read_locked_place p r m (a + j) (same_lock p a j (alike j h).0 ∙ sym e ∙ t)

  pub suspended_piece : (x y : Bool) → x ≡ read_locked p a → x ≡ false → y ≡ holds r a → y ≡ true → (j : ℕ) → j < n → place_cell p r m (a + j) ≡ record { byte = 0; mark = 0 }
  suspended_piece x y e t f u j h = suspended_place p r m (a + j) (same_lock p a j (alike j h).0 ∙ sym e ∙ t) ((alike j h).1 ∙ sym f ∙ u)

  pub stored_piece : (x y : Bool) → x ≡ read_locked p a → x ≡ false → y ≡ holds r a → y ≡ false → (j : ℕ) → j < n → place_cell p r m (a + j) ≡ record { byte = m.byte (a + j); mark = 1 }
  stored_piece x y e t f u j h = stored_place p r m (a + j) (same_lock p a j (alike j h).0 ∙ sym e ∙ t) ((alike j h).1 ∙ sym f ∙ u)

-- within a page all places are
pub alike_in_page : (r : Range) (a n : ℕ) → Pages r → a % 256 + n ≤ 256 → Alike r a n
alike_in_page r a n g fits j h =
    let s = g.start_aligned in
    let z = g.size_aligned in (
      omega arith,
      same_test (holds r (a + j)) (holds r a)
          (λ e. let k = holds_at r (a + j) e in holds_intro r a (omega arith) (omega arith))
          (λ e. let k = holds_at r a e in holds_intro r (a + j) (omega arith) (omega arith)),
    )

-- and up to the end of their sector, the range's start or its end
abbrev pub run : Range → ℕ → ℕ
run r a = min (4096 - a % 4096) (pick (ltb a r.start) (r.start - a) (pick (ltb a (r.start + r.size)) (r.start + r.size - a) 4096))

pub alike_in_run : (r : Range) (a n : ℕ) → n ≤ run r a → Alike r a n
alike_in_run r a n fits j h = go (ltb a r.start) refl (ltb a (r.start + r.size)) refl
  where
    go : (x : Bool) → ltb a r.start ≡ x → (y : Bool) → ltb a (r.start + r.size) ≡ y → ((a + j) / 4096 ≡ a / 4096) × (holds r (a + j) ≡ holds r a)
    go true e y f =
        let b = ltb-true a r.start e in
        let l : n ≤ min (4096 - a % 4096) (r.start - a) = (rw (e) at fits) in
        (omega arith, same_test (holds r (a + j)) (holds r a) (λ q. let k = holds_at r (a + j) q in absurd (omega arith)) (λ q. let k = holds_at r a q in absurd (omega arith)))
    go false e true f =
        let b = ltb-false a r.start e in
        let d = ltb-true a (r.start + r.size) f in
        let l : n ≤ min (4096 - a % 4096) (r.start + r.size - a) = (rw (e, f) at fits) in
        (omega arith, same_test (holds r (a + j)) (holds r a) (λ q. holds_intro r a (omega arith) (omega arith)) (λ q. holds_intro r (a + j) (omega arith) (omega arith)))
    go false e false f =
        let b = ltb-false a r.start e in
        let d = ltb-false a (r.start + r.size) f in
        let l : n ≤ min (4096 - a % 4096) 4096 = (rw (e, f) at fits) in
        (omega arith, same_test (holds r (a + j)) (holds r a) (λ q. let k = holds_at r (a + j) q in absurd (omega arith)) (λ q. let k = holds_at r a q in absurd (omega arith)))

-- that is one place at least
pub run_some : (r : Range) (a : ℕ) → 0 < run r a
run_some r a = go (ltb a r.start) refl (ltb a (r.start + r.size)) refl
  where
    go : (x : Bool) → ltb a r.start ≡ x → (y : Bool) → ltb a (r.start + r.size) ≡ y → 0 < run r a
    go true e y f = let b = ltb-true a r.start e in rw (e) (omega arith)
    go false e true f = let d = ltb-true a (r.start + r.size) f in rw (e, f) (omega arith)
    go false e false f = rw (e, f) (omega arith)

-- a piece of a read: it is the run, or what is left of the reply
pub record Piece (r : Range) (a n left : ℕ) : Type 0 where
  pub some : 0 < n
  pub most : n ≤ left
  pub in_sector : a % 4096 + n ≤ 4096
  pub is_alike : Alike r a n

pub piece : (r : Range) (a x n left : ℕ) → x ≡ run r a → n ≡ min x left → 0 < left → Piece r a n left
piece r a x n left e f h =
    let s = run_some r a in
    let m : run r a ≤ 4096 - a % 4096 = omega arith in
    record { some = omega arith; most = omega arith; in_sector = omega arith; is_alike = alike_in_run r a n (omega arith) }

-- a patch whose bytes are said another way
pub patched_same : (l l₀ : List ℕ) (i n : ℕ) (f g : ℕ → ℕ) → Patched l l₀ i n f → ((j : ℕ) → j < n → g j ≡ f j) → Patched l l₀ i n g
patched_same l l₀ i n f g h e = record { size = h.size; inside = λ j below. h.inside j below ∙ sym (e j below); before = h.before; after = h.after }

-- the place of byte i + j of a read
pub place_on : (at i j : ℕ) → (at + i) % array_size_lem % 4096 + j < 4096 → (at + i) % array_size_lem + j ≡ (at + (i + j)) % array_size_lem
place_on at i j h = omega arith

-- filled to the end
pub upto_all : {l : List ℕ} {n k : ℕ} {f : ℕ → ℕ} → Upto l n k f → k ≡ n → Upto l n n f
upto_all {l} {n} {k} {f} h e = subst (λ (x : ℕ). Upto l n x f) e h
