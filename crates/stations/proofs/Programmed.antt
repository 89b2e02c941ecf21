-- A page program of part of one slot, done or stopped: the buffer has FF but for the bytes sent, and a byte AND FF, or AND itself OR m, is that byte. So no byte changes but those sent,
-- and of a done program each of these is the old one AND what was sent. Assumes nothing.
use Prim.Native.Nat.{ℕ, ◌+◌, ◌-◌, ◌*◌, ◌/◌, ◌%◌, ◌≤◌, ◌<◌}
use mathlib.Core.Path.{◌≡◌, refl, sym, ap, ◌∙◌, subst}
use mathlib.Core.Bool.{Bool, true, false, ◌&&◌}
use mathlib.Core.List.{List, [], ◌∷◌}
use mathlib.Core.Logic.{◌⊎◌, inl, inr}
use native.Mathlib.Omega.{arith}
use native.Mathlib.Decide.{ℕ_discrete}
use lib.Dec.{eqb, ltb}
use lib.ListN.{length, get_or, get_or-replicate}
use lib.Bits.{bit_and, bit_or, and_le_r}
use borrow.Author.Tests.{ltb-true, ltb-false}
use Rattle.rules.specs.declared.Range.{Range}
use Rattle.rules.specs.declared.Tear.{Tear}
use Rattle.rules.specs.declared.Work.{Work}
use Rattle.rules.specs.declared.Work.TheVariants.{ProgramPage}
use Rattle.rules.specs.Words.{bit, pick, range, holds, Lent}
use Rattle.rules.specs.Blocks.{blocks, wide, span, block_of, block_at, read_locked}
use Rattle.rules.specs.Works.{all, stopped, finish}
use Rattle.rules.specs.Frames.{address}
use Rattle.rules.specs.Programs.{blank, fill, page_buffer}
use Rattle.rules.specs.Tears.{OfBytes}
use Rattle.rules.proofs.Bits.{or_absorbs, byte_among}
use Rattle.rules.proofs.Blocks.{holds_at, holds_intro, block_only}
use Rattle.rules.proofs.Effects.{fill_other, fill_last, finish_first}
use Rattle.rules.proofs.TornBytes.{finish_each, stopped_clears}
use Rattle.stations.specs.Plans.{program_at}

-- the page program of a frame, stopped as t says
abbrev pub stopped_by : Tear → List ℕ → Lent → Lent
stopped_by t f mem = finish (ProgramPage (address f / 256)) (range (address f / 256 * 256) 256) (page_buffer f) t mem

-- and done
abbrev pub programmed : List ℕ → Lent → Lent
programmed f mem = finish (ProgramPage (address f / 256)) (range (address f / 256 * 256) 256) (page_buffer f) all mem

-- the programs of frames in turn
abbrev pub programmed_all : List (List ℕ) → Lent → Lent
programmed_all [] mem = mem
programmed_all (f ∷ fs) mem = programmed_all fs (programmed f mem)

-- ---- the list's block has no read lock

unpaired : (p : ℕ) → ((block_at 39).paired && bit ((block_at 39).write + 1) p) ≡ false
unfolding block_at blocks wide
unpaired p = refl

in_block : (x : ℕ) → x < 65536 → holds (span (block_at 39)) (0x10000 + x) ≡ true
unfolding block_at blocks wide
in_block x h = holds_intro (range 0x10000 0x10000) (0x10000 + x) (omega arith) (omega arith)

pub list_block : (x : ℕ) → x < 65536 → block_of (0x10000 + x) ≡ 39
list_block x h = sym (block_only 39 (0x10000 + x) (omega arith) (omega arith) (in_block x h))

pub no_read_lock : (p x : ℕ) → x < 65536 → read_locked p (0x10000 + x) ≡ false
unfolding read_locked
no_read_lock p x h = ap (λ (k : ℕ). (block_at k).paired && bit ((block_at k).write + 1) p) (list_block x h) ∙ unpaired p

-- ---- one byte

pub and_ff : (x : ℕ) → x < 256 → bit_and x 0xFF ≡ x
and_ff x h = byte_among x 0 h

-- a byte that the buffer has FF for stays, however the program is stopped
untouched : (page : ℕ) (b : List ℕ) (t : Tear) (i x : ℕ) → x < 256 → get_or b i 0 ≡ 0xFF → stopped (ProgramPage page) b t i x ≡ x
untouched page b t i x h e = go (ltb i t.k) (eqb i t.k)
  where
    whole : bit_and x (get_or b i 0) ≡ x
    whole = ap (bit_and x) e ∙ and_ff x h

    go : (c d : Bool) → pick c (bit_and x (get_or b i 0)) (pick d (bit_and x (bit_or (bit_and x (get_or b i 0)) t.m)) x) ≡ x
    go true d = whole
    go false true = ap (λ (y : ℕ). bit_and x (bit_or y t.m)) whole ∙ or_absorbs x t.m
    go false false = refl

-- bytes stay bytes
pub stopped_bytes : (t : Tear) (f : List ℕ) (mem : Lent) → OfBytes mem → OfBytes (stopped_by t f mem)
stopped_bytes t f mem small a =
    let h = small a in
    let k = finish_each w r (page_buffer f) t mem (λ x y. x ≤ y) a (λ e. less (stopped w (page_buffer f) t (a - r.start) (mem.byte a)) (mem.byte a) (stopped_clears w (page_buffer f) t (a - r.start) (mem.byte a) refl)) (omega arith) in
    omega arith
  where
    w : Work
    w = ProgramPage (address f / 256)

    r : Range
    r = range (address f / 256 * 256) 256

    less : (x y : ℕ) → bit_and x y ≡ x → x ≤ y
    less x y e = let h = and_le_r x y in omega arith

-- ---- a frame of part of one slot

place_split : (p : ℕ) → p < 65536 → (1 * 0x10000 + p / 256 % 256 * 0x100 + p % 256) % 0x200000 ≡ 0x10000 + p
place_split p h =
    let a : p / 256 % 256 ≡ p / 256 = omega arith in
    let b : p / 256 * 256 + p % 256 ≡ p = omega arith in
    let c : 1 * 0x10000 + p / 256 % 256 * 0x100 + p % 256 ≡ 0x10000 + p = omega arith in
    ap (λ (x : ℕ). x % 0x200000) c ∙ low
  where
    low : (0x10000 + p) % 0x200000 ≡ 0x10000 + p
    low = omega arith

-- the address of a frame at a place of the list
pub frame_to : (p : ℕ) (ds : List ℕ) → p < 65536 → address (program_at p ds) ≡ 0x10000 + p
frame_to p ds h = place_split p h

blank_at : (q : ℕ) → q < 256 → get_or blank q 0 ≡ 0xFF
unfolding blank
blank_at q h = get_or-replicate 256 q 0xFF 0 h

module _ (i lo p : ℕ) (at : p ≡ i * 32 + lo) (ds : List ℕ) (few : i < 2048) (low : lo < 32) (fits : lo + length ds ≤ 32) where
  abbrev sent : List ℕ
  sent = program_at p ds

  to : address sent ≡ 0x10000 + p
  to = place_split p (omega arith)

  -- the buffer has FF but for the bytes sent
  others : (q : ℕ) → q < 256 → ((d : ℕ) → d < length ds → p % 256 + d ≡ q → ⊥) → get_or (page_buffer sent) q 0 ≡ 0xFF
  unfolding page_buffer
  others q l h = fill_other blank (address sent % 256) ds q (λ d b e. h d b (near (address sent) to d b e)) ∙ blank_at q l
    where
      near : (a : ℕ) → a ≡ 0x10000 + p → (d : ℕ) → d < length ds → (a % 256 + d) % 256 ≡ q → p % 256 + d ≡ q
      near a z d b e = omega arith

  buffer_at : (d : ℕ) → d < length ds → get_or (page_buffer sent) (p % 256 + d) 0 ≡ get_or ds d 0
  unfolding page_buffer blank
  buffer_at d l =
      ap (λ (q : ℕ). get_or (fill blank (address sent % 256) ds) q 0) (turn (address sent) to)
      ∙ fill_last blank (address sent % 256) ds d refl l (λ j above below. apart (address sent) to j above below)
    where
      turn : (a : ℕ) → a ≡ 0x10000 + p → p % 256 + d ≡ (a % 256 + d) % 256
      turn a z = omega arith

      apart : (a : ℕ) → a ≡ 0x10000 + p → (j : ℕ) → d < j → j < length ds → (a % 256 + j) % 256 ≡ (a % 256 + d) % 256 → ⊥
      apart a z j above below e = omega arith

  -- no byte changes but those sent, however the program is stopped
  pub program_miss : (t : Tear) (mem : Lent) → OfBytes mem → (a : ℕ) → (a < 0x10000 + p) ⊎ (0x10000 + p + length ds ≤ a) → (stopped_by t sent mem).byte a ≡ mem.byte a
  program_miss t mem small a o =
      finish_each (ProgramPage (address sent / 256)) (range (address sent / 256 * 256) 256) (page_buffer sent) t mem (λ x y. x ≡ y) a (λ h. same (address sent) to h) refl
    where
      away : (b : ℕ) → b ≡ 0x10000 + p → b / 256 * 256 ≤ a → a < b / 256 * 256 + 256 → (a < 0x10000 + p) ⊎ (0x10000 + p + length ds ≤ a)
          → (d : ℕ) → d < length ds → p % 256 + d ≡ a - b / 256 * 256 → ⊥
      away b z x y (inl q) d l e = omega arith
      away b z x y (inr q) d l e = omega arith

      same : (b : ℕ) → b ≡ 0x10000 + p → holds (range (b / 256 * 256) 256) a ≡ true
          → stopped (ProgramPage (b / 256)) (page_buffer sent) t (a - b / 256 * 256) (mem.byte a) ≡ mem.byte a
      same b z h =
          let k = holds_at (range (b / 256 * 256) 256) a h in
          let x = k.0 in
          let y = k.1 in
          untouched (b / 256) (page_buffer sent) t (a - b / 256 * 256) (mem.byte a) (small a) (others (a - b / 256 * 256) (omega arith) (away b z x y o))

  -- the same, by slots
  pub slot_miss : (t : Tear) (mem : Lent) → OfBytes mem → (k j : ℕ) → j < 32 → (k ≡ i → (j < lo) ⊎ (lo + length ds ≤ j))
      → (stopped_by t sent mem).byte (0x10000 + (k * 32 + j)) ≡ mem.byte (0x10000 + (k * 32 + j))
  slot_miss t mem small k j l o = program_miss t mem small (0x10000 + (k * 32 + j)) (go (ℕ_discrete k i) (ltb k i) refl)
    where
      own : k ≡ i → (j < lo) ⊎ (lo + length ds ≤ j) → (0x10000 + (k * 32 + j) < 0x10000 + p) ⊎ (0x10000 + p + length ds ≤ 0x10000 + (k * 32 + j))
      own z (inl q) = inl (omega arith)
      own z (inr q) = inr (omega arith)

      go : Dec (k ≡ i) → (b : Bool) → ltb k i ≡ b → (0x10000 + (k * 32 + j) < 0x10000 + p) ⊎ (0x10000 + p + length ds ≤ 0x10000 + (k * 32 + j))
      go (yes z) b e = own z (o z)
      go (no z) true e = let h = ltb-true k i e in inl (omega arith)
      go (no z) false e = let h = ltb-false k i e in let g : i < k = omega arith in inr (omega arith)

  -- of a done program each byte sent is the old one AND it
  pub slot_hit : (mem : Lent) (d : ℕ) → d < length ds → (programmed sent mem).byte (0x10000 + (i * 32 + (lo + d))) ≡ bit_and (mem.byte (0x10000 + (i * 32 + (lo + d)))) (get_or ds d 0)
  slot_hit mem d l =
      finish_first (ProgramPage (address sent / 256)) (range (address sent / 256 * 256) 256) (page_buffer sent) all mem (0x10000 + (i * 32 + (lo + d)))
      (inside (address sent) to) (far (address sent) to)
      ∙ ap (bit_and (mem.byte (0x10000 + (i * 32 + (lo + d))))) (ap (λ (q : ℕ). get_or (page_buffer sent) q 0) (off (address sent) to) ∙ buffer_at d l)
    where
      inside : (a : ℕ) → a ≡ 0x10000 + p → holds (range (a / 256 * 256) 256) (0x10000 + (i * 32 + (lo + d))) ≡ true
      inside a z = holds_intro (range (a / 256 * 256) 256) (0x10000 + (i * 32 + (lo + d))) (omega arith) (omega arith)

      off : (a : ℕ) → a ≡ 0x10000 + p → 0x10000 + (i * 32 + (lo + d)) - a / 256 * 256 ≡ p % 256 + d
      off a z = omega arith

      far : (a : ℕ) → a ≡ 0x10000 + p → 0x10000 + (i * 32 + (lo + d)) - a / 256 * 256 < 0x200000
      far a z = omega arith

  -- the same, by the byte of the slot
  pub slot_hit_at : (mem : Lent) (j : ℕ) → lo ≤ j → j < lo + length ds
      → (programmed sent mem).byte (0x10000 + (i * 32 + j)) ≡ bit_and (mem.byte (0x10000 + (i * 32 + j))) (get_or ds (j - lo) 0)
  slot_hit_at mem j a b =
      let z : lo + (j - lo) ≡ j = omega arith in
      subst (λ (k : ℕ). (programmed sent mem).byte (0x10000 + (i * 32 + k)) ≡ bit_and (mem.byte (0x10000 + (i * 32 + k))) (get_or ds (j - lo) 0)) z
      (slot_hit mem (j - lo) (omega arith))
