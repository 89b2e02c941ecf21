-- The blocks by shifts and comparisons: of a number, and of a place. Assumes nothing.
use Prim.Native.Nat.{ℕ, ◌+◌, ◌-◌, ◌*◌, ◌/◌, ◌≤◌, ◌<◌}
use mathlib.Core.Path.{◌≡◌, refl, sym, ap, ◌∙◌, subst}
use mathlib.Core.Bool.{Bool, true, ◌&&◌}
use native.Mathlib.Nat.{div-lt_iff_lt-mul, div-mul-le_self, lt-div-mul-add}
use native.Mathlib.Omega.{arith}
use lib.Dec.{ltb}
use borrow.Author.Tests.{lt-ltb, le-ltb}
use Rattle.rules.specs.declared.Block.{Block}
use Rattle.rules.specs.Words.{bit, pick, holds}
use Rattle.rules.specs.Blocks.{pair, single, wide, blocks, array_size_lem, span, block_of, block_at, write_locked, read_locked}
use Rattle.rules.proofs.Bools.{upto_at}
use Rattle.rules.proofs.Blocks.{holds_intro, block_of_lt, block_placed, block_only, same_row, row_ext}

-- ---- of a number

abbrev by_number : ℕ → Block
by_number n =
    pick (ltb n 4) (pair (46 - 2 * n) (0x1FE000 - 0x2000 * n))
    (pick (ltb n 8) (pair (46 - 2 * n) (0xE000 - 0x2000 * n))
    (pick (ltb n 9) (single (39 - n) 0x1F0000 0x8000)
    (pick (ltb n 10) (single (39 - n) 0x8000 0x8000)
    (single (39 - n) (0x280000 - 0x10000 * n) 0x10000))))

-- the one test: it is the rules' table, computed over the forty rows
row_is : (n : ℕ) → n < 40 → by_number n ≡ block_at n
unfolding block_at blocks wide
row_is n h = row_ext (by_number n) (block_at n) (upto_at 40 (λ n. same_row (by_number n) (block_at n)) refl n h)

-- the 8-KB blocks at the top, those at the bottom, the 32-KB block at the top, that at the bottom, the 64-KB blocks
pub row_top : (n : ℕ) → n < 40 → n < 4 → pair (46 - 2 * n) (0x1FE000 - 0x2000 * n) ≡ block_at n
row_top n h a = (rw (lt-ltb n 4 a) at (row_is n h))

pub row_bottom : (n : ℕ) → n < 40 → 4 ≤ n → n < 8 → pair (46 - 2 * n) (0xE000 - 0x2000 * n) ≡ block_at n
row_bottom n h a b = (rw (le-ltb n 4 a, lt-ltb n 8 b) at (row_is n h))

pub row_high : (n : ℕ) → n < 40 → 8 ≤ n → n < 9 → single (39 - n) 0x1F0000 0x8000 ≡ block_at n
row_high n h a b = (rw (le-ltb n 4 (omega arith), le-ltb n 8 a, lt-ltb n 9 b) at (row_is n h))

pub row_low : (n : ℕ) → n < 40 → 9 ≤ n → n < 10 → single (39 - n) 0x8000 0x8000 ≡ block_at n
row_low n h a b = (rw (le-ltb n 4 (omega arith), le-ltb n 8 (omega arith), le-ltb n 9 a, lt-ltb n 10 b) at (row_is n h))

pub row_wide : (n : ℕ) → n < 40 → 10 ≤ n → single (39 - n) (0x280000 - 0x10000 * n) 0x10000 ≡ block_at n
row_wide n h a = (rw (le-ltb n 4 (omega arith), le-ltb n 8 (omega arith), le-ltb n 9 (omega arith), le-ltb n 10 a) at (row_is n h))

-- ---- of a place

-- the one law: a row that holds the place is that of its block
in_row : (n a : ℕ) (b : Block) → n < 40 → a < array_size_lem → b ≡ block_at n → b.start ≤ a → a < b.start + b.size → n ≡ block_of a
in_row n a b h k e from to = block_only n a h k (subst (λ (b : Block). holds (span b) a ≡ true) e (holds_intro (span b) a from to))

-- the number counted in a stretch, from the block that begins it
pub record Counted (n a : ℕ) (b : Block) : Type 0 where
  pub from : b.start ≤ a
  pub some : 0 < b.size
  pub most : (a - b.start) / b.size ≤ n
  pub is : n - (a - b.start) / b.size ≡ block_of a

-- k blocks of one size, one after the other: numbers fall as places rise
abbrev Stretch : ℕ → ℕ → Type 0
Stretch n k = (q : ℕ) → q < k → (q ≤ n) × (((block_at (n - q)).start ≡ (block_at n).start + q * (block_at n).size) × ((block_at (n - q)).size ≡ (block_at n).size))

-- counting in it gives the block of a place, over any size
counted : (n k a : ℕ) → n < 40 → Stretch n k → (block_at n).start ≤ a → a < (block_at n).start + k * (block_at n).size → a < array_size_lem → Counted n a (block_at n)
counted n k a h follow from to inside =
    let some = (block_placed n h).some in
    let q : ℕ = (a - (block_at n).start) / (block_at n).size in
    let r = follow q ((div-lt_iff_lt-mul some).1 (omega arith)) in
    let l = div-mul-le_self (a - (block_at n).start) (block_at n).size in
    let u = lt-div-mul-add {a = a - (block_at n).start} some in
    let w = r.1.0 in
    let z = r.1.1 in
    record { from = from; some = some; most = r.0; is = in_row (n - q) a (block_at (n - q)) (omega arith) inside refl (omega arith) (omega arith) }

-- three are of more than one block, by their rows
row_of : (m s z : ℕ) (b : Block) → b ≡ block_at m → b.start ≡ s → b.size ≡ z → ((block_at m).start ≡ s) × ((block_at m).size ≡ z)
row_of m s z b e f g = (sym (ap (λ (b : Block). b.start) e) ∙ f, sym (ap (λ (b : Block). b.size) e) ∙ g)

bottom : Stretch 7 4
unfolding block_at blocks wide
bottom q h = (omega arith, row_of (7 - q) (0 + q * 0x2000) 0x2000 _ (row_bottom (7 - q) (omega arith) (omega arith) (omega arith)) (omega arith) refl)

middle : Stretch 39 30
unfolding block_at blocks wide
middle q h = (omega arith, row_of (39 - q) (0x10000 + q * 0x10000) 0x10000 _ (row_wide (39 - q) (omega arith) (omega arith)) (omega arith) refl)

top : Stretch 3 4
unfolding block_at blocks wide
top q h = (omega arith, row_of (3 - q) (0x1F8000 + q * 0x2000) 0x2000 _ (row_top (3 - q) (omega arith) (omega arith)) (omega arith) refl)

-- two of one block, which the next stretch ends
only : (n m a : ℕ) (b next : Block) → n < 40 → m < 40 → b ≡ block_at n → next ≡ block_at m → (block_at n).start + (block_at n).size ≡ (block_at m).start → b.start ≤ a → a < next.start
    → n ≡ block_of a
only n m a b next h k e f ends from below =
    let to : a < (block_at m).start = subst (λ (x : Block). a < x.start) f below in
    let i = (block_placed m k).inside in
    in_row n a (block_at n) h (omega arith) refl (subst (λ (x : Block). x.start ≤ a) e from) (omega arith)

-- the five stretches of the array; each ends where the next begins
module _ (a : ℕ) where
  pub at_bottom : (b low : Block) → b ≡ block_at 7 → low ≡ block_at 9 → a < low.start → Counted 7 a b
  unfolding block_at blocks wide
  at_bottom b low e f below =
      let from : 0 ≤ a = omega arith in
      let to : a < 0x8000 = subst (λ (x : Block). a < x.start) f below in
      subst (Counted 7 a) (sym e) (counted 7 4 a (omega arith) bottom from to (omega arith))

  pub at_low : (low next : Block) → low ≡ block_at 9 → next ≡ block_at 39 → low.start ≤ a → a < next.start → 9 ≡ block_of a
  unfolding block_at blocks wide
  at_low low next e f from below = only 9 39 a low next (omega arith) (omega arith) e f refl from below

  pub at_middle : (b high : Block) → b ≡ block_at 39 → high ≡ block_at 8 → b.start ≤ a → a < high.start → Counted 39 a b
  unfolding block_at blocks wide
  at_middle b high e f above below =
      let to : a < 0x1F0000 = subst (λ (x : Block). a < x.start) f below in
      subst (Counted 39 a) (sym e) (counted 39 30 a (omega arith) middle (subst (λ (x : Block). x.start ≤ a) e above) to (omega arith))

  pub at_high : (high top : Block) → high ≡ block_at 8 → top ≡ block_at 3 → high.start ≤ a → a < top.start → 8 ≡ block_of a
  unfolding block_at blocks wide
  at_high high top e f from below = only 8 3 a high top (omega arith) (omega arith) e f refl from below

  pub at_top : (b : Block) → b ≡ block_at 3 → b.start ≤ a → a < array_size_lem → Counted 3 a b
  unfolding block_at blocks wide
  at_top b e above to = subst (Counted 3 a) (sym e) (counted 3 4 a (omega arith) top (subst (λ (x : Block). x.start ≤ a) e above) to to)

-- ---- its locks

pub number_small : (a n : ℕ) → a < array_size_lem → n ≡ block_of a → n < 40
number_small a n h e = let l = block_of_lt a h in omega arith

pub lock_small : (n : ℕ) (b : Block) → n < 40 → b ≡ block_at n → b.write < 47
lock_small n b h e = subst (λ (b : Block). b.write < 47) (sym e) (block_placed n h).lock

pub write_lock : (p a n : ℕ) (b : Block) (x : Bool) → n ≡ block_of a → b ≡ block_at n → x ≡ bit b.write p → x ≡ write_locked p a
unfolding write_locked
write_lock p a n b x e f g = g ∙ ap (λ (b : Block). bit b.write p) (f ∙ ap block_at e)

pub read_lock : (p a n : ℕ) (b : Block) (x : Bool) → n ≡ block_of a → b ≡ block_at n → x ≡ bit (b.write + 1) p → (b.paired && x) ≡ read_locked p a
unfolding read_locked
read_lock p a n b x e f g =
    ap (λ (x : Bool). b.paired && x) g ∙ ap (λ (b : Block). b.paired && bit (b.write + 1) p) (f ∙ ap block_at e)
