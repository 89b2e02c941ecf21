-- Replies: from what the loops leave to what the rules show. Assumes nothing.
use Prim.Native.Nat.{ℕ, ◌+◌, ◌-◌, ◌*◌, ◌/◌, ◌%◌, ◌^◌}
use mathlib.Core.Path.{◌≡◌, refl, sym, ap, ◌∙◌, subst}
use mathlib.Core.Bool.{true}
use mathlib.Core.List.{List, [], ◌∷◌}
use native.Mathlib.Omega.{arith}
use lib.Dec.{ltb}
use lib.ListN.{length, get_or, set, length-set, replicate}
use lib.Seq.{get_or-set_same}
use borrow.Author.Tests.{ltb-true}
use Rattle.std.proofs.lemmas.List.{get_or-replicate, length-replicate}
use Rattle.rules.specs.declared.Burst.{Burst}
use Rattle.rules.specs.declared.Cell.{Cell}
use Rattle.rules.specs.declared.Range.{Range}
use Rattle.rules.specs.declared.Rest.{Rest}
use Rattle.rules.specs.declared.Source.{Source}
use Rattle.rules.specs.declared.Work.{Work}
use Rattle.rules.specs.declared.Work.TheVariants.{Nothing, EraseSector, EraseBlock, EraseArray, ProgramPage, ProgramSecurity, LockSecurity, WriteConfiguration, AddPermanent}
use Rattle.rules.specs.Words.{pick, lent, written}
use Rattle.rules.specs.Blocks.{security_size_lem}
use Rattle.rules.specs.Works.{array_range}
use Rattle.rules.specs.Registers.{status, configuration}
use Rattle.rules.specs.Frames.{address, security_address}
use Rattle.rules.specs.Bursts.{burst_length, Divides}
use Rattle.rules.specs.Reading.{shown}
use Rattle.rules.specs.WellFormed.{numbers_right}
use Rattle.rules.proofs.Blocks.{block_placed}
use Rattle.rules.proofs.Bursts.{lengths_divide}
use Rattle.rules.proofs.Promises.{lent_written}
use Rattle.reading.specs.Upto.{Upto, Pages, cell_from, burst_cell}
use Rattle.replying.specs.Replying.{Replied}

pub upto_written : (l : List ℕ) (n : ℕ) (f : ℕ → ℕ) → Upto l n n f → lent l ≡ written n f
upto_written l n f h = lent_written l n f h.size h.at

-- one byte stored in a memory of one byte
pub stored_written : (l : List ℕ) (x : ℕ) → length l ≡ 1 → lent (set l 0 x) ≡ written (length l) (λ i. x)
stored_written l x h =
    lent_written (set l 0 x) (length l) (λ i. x) (length-set l 0 x)
    (λ i below. let z : i ≡ 0 = omega arith in rw z (get_or-set_same l 0 x 0 (omega arith)))

-- one byte throughout
pub filled_written : (l : List ℕ) (n v : ℕ) → l ≡ replicate n v → lent l ≡ written n (λ i. v)
filled_written l n v e =
    lent_written l n (λ i. v) (ap length e ∙ length-replicate n v) (λ i below. ap (λ (k : List ℕ). get_or k i 0) e ∙ get_or-replicate n i v 0 below)

-- ---- the suspended range of a well-formed record is one of whole pages

pages_of : (w : Work) → numbers_right w ≡ true → Pages (array_range w)
pages_of Nothing e = record { start_aligned = refl; size_aligned = refl; inside = omega arith }
pages_of (EraseSector n) e = let h = ltb-true n 512 e in record { start_aligned = omega arith; size_aligned = refl; inside = omega arith }
pages_of (EraseBlock n) e =
    let f = block_placed n (ltb-true n 40 e) in
    let s = f.start_aligned in
    let z = f.size_aligned in
    record { start_aligned = omega arith; size_aligned = omega arith; inside = f.inside }
pages_of EraseArray e = record { start_aligned = refl; size_aligned = refl; inside = omega arith }
pages_of (ProgramPage n) e = let h = ltb-true n 8192 e in record { start_aligned = omega arith; size_aligned = refl; inside = omega arith }
pages_of (ProgramSecurity n) e = record { start_aligned = refl; size_aligned = refl; inside = omega arith }
pages_of LockSecurity e = record { start_aligned = refl; size_aligned = refl; inside = omega arith }
pages_of (WriteConfiguration i w) e = record { start_aligned = refl; size_aligned = refl; inside = omega arith }
pages_of (AddPermanent v) e = record { start_aligned = refl; size_aligned = refl; inside = omega arith }

pub suspended_pages : (r : Rest) (a : Range) → numbers_right r.works.suspended ≡ true → a ≡ array_range r.works.suspended → Pages a
suspended_pages r a h e = rw e (pages_of r.works.suspended h)

pub length_divides : (b : Burst) (n : ℕ) → n ≡ burst_length b → Divides n
length_divides b n e = rw e (lengths_divide b)

-- ---- each source

module _ (s : Source) (x : Rest) (array security sent y m y' m' : List ℕ) where
  Shown : Source → Type 0
  Shown s = Replied y m y' m' (λ i. shown s x (lent array) (lent security) sent i)

  by_source : (t : Source) → s ≡ t → Shown t → Shown s
  by_source t e h = subst Shown (sym e) h

  pub shows_status : (v : ℕ) → s ≡ Source.Status → v ≡ status x → Replied y m y' m' (λ i. record { byte = v; mark = 1 }) → Replied y m y' m' (λ i. shown s x (lent array) (lent security) sent i)
  unfolding Shown shown
  shows_status v e ev h = by_source Source.Status e (subst (λ (v : ℕ). Replied y m y' m' (λ i. record { byte = v; mark = 1 })) ev h)

  pub shows_configuration : (v : ℕ) → s ≡ Source.Configuration → v ≡ configuration x → Replied y m y' m' (λ i. record { byte = v; mark = 1 }) → Replied y m y' m' (λ i. shown s x (lent array) (lent security) sent i)
  unfolding Shown shown
  shows_configuration v e ev h = by_source Source.Configuration e (subst (λ (v : ℕ). Replied y m y' m' (λ i. record { byte = v; mark = 1 })) ev h)

  pub shows_protection : s ≡ Source.Protection → Upto y' (length y) (length y) (λ i. pick (ltb i 6) (x.locks.protection / 2 ^ (8 * (5 - i)) % 256) 0) → lent m' ≡ written (length m) (λ i. 1)
      → Replied y m y' m' (λ i. shown s x (lent array) (lent security) sent i)
  unfolding Shown shown
  shows_protection e h k = by_source Source.Protection e record { bytes = upto_written y' (length y) _ h; known = k }

  pub shows_identity : s ≡ Source.Identity → Upto y' (length y) (length y) (λ i. get_or (191 ∷ 38 ∷ 81 ∷ []) (i % 3) 0) → lent m' ≡ written (length m) (λ i. 1)
      → Replied y m y' m' (λ i. shown s x (lent array) (lent security) sent i)
  unfolding Shown shown
  shows_identity e h k = by_source Source.Identity e record { bytes = upto_written y' (length y) _ h; known = k }

  pub shows_security : (at : ℕ) → s ≡ Source.Security → at ≡ security_address sent → Upto y' (length y) (length y) (λ i. get_or security ((at + i) % security_size_lem) 0) → lent m' ≡ written (length m) (λ i. 1)
      → Replied y m y' m' (λ i. shown s x (lent array) (lent security) sent i)
  unfolding Shown shown
  shows_security at e ea h k =
      by_source Source.Security e
      record { bytes = upto_written y' (length y) _ (subst (λ (at : ℕ). Upto y' (length y) (length y) (λ i. get_or security ((at + i) % security_size_lem) 0)) ea h); known = k }

  -- a read of the array: the cells that the loops leave are those of the rules
  by_cells : (t : Source) (f g : ℕ → Cell) → s ≡ t → (λ (i : ℕ). shown t x (lent array) (lent security) sent i) ≡ g → f ≡ g
      → Upto y' (length y) (length y) (λ i. (f i).byte) → Upto m' (length m) (length m) (λ i. (f i).mark) → Replied y m y' m' (λ i. shown s x (lent array) (lent security) sent i)
  unfolding Shown
  by_cells t f g e is q h k =
      by_source t e (subst (λ (c : ℕ → Cell). Replied y m y' m' c) (q ∙ sym is) record { bytes = upto_written y' (length y) _ h; known = upto_written m' (length m) _ k })

  pub shows_array : (r : Range) (at : ℕ) → s ≡ Source.Array → r ≡ array_range x.works.suspended → at ≡ address sent
      → Upto y' (length y) (length y) (λ i. (cell_from x.locks.protection r array at i).byte) → Upto m' (length m) (length m) (λ i. (cell_from x.locks.protection r array at i).mark)
      → Replied y m y' m' (λ i. shown s x (lent array) (lent security) sent i)
  unfolding shown
  shows_array r at e er ea h k = by_cells Source.Array (cell_from x.locks.protection r array at) _ e refl (λ j. cell_from x.locks.protection (er j) array (ea j)) h k

  pub shows_burst : (r : Range) (at n : ℕ) → s ≡ Source.ArrayBurst → r ≡ array_range x.works.suspended → at ≡ address sent → n ≡ burst_length x.burst
      → Upto y' (length y) (length y) (λ i. (burst_cell x.locks.protection r array n at i).byte) → Upto m' (length m) (length m) (λ i. (burst_cell x.locks.protection r array n at i).mark)
      → Replied y m y' m' (λ i. shown s x (lent array) (lent security) sent i)
  unfolding shown
  shows_burst r at n e er ea en h k = by_cells Source.ArrayBurst (burst_cell x.locks.protection r array n at) _ e refl (λ j. burst_cell x.locks.protection (er j) array (en j) (ea j)) h k
