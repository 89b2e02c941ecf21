-- The forty blocks tile the array, and a sector, a page and a block lie in one block. Facts of the table are tests that antt
-- computes: over its rows, or over the 256 groups of 8 KB, within which nothing about blocks changes. Assumes nothing.
use Prim.Native.Nat.{ℕ, suc, ◌+◌, ◌-◌, ◌*◌, ◌/◌, ◌%◌, ◌^◌, ◌≤◌, ◌<◌, min, max}
use mathlib.Core.Path.{◌≡◌, refl, sym, ap, ap₂, ◌∙◌, subst}
use mathlib.Core.Bool.{Bool, true, false, not, ◌&&◌, ◌||◌, beq, true≢false, false≢true}
use mathlib.Core.List.{List, [], ◌∷◌}
use native.Mathlib.Omega.{arith}
use native.Mathlib.Decide.{ℕ_discrete}
use lib.Dec.{eqb, ltb, leb}
use lib.ListN.{length, get_or}
use lib.Bits.{bit_and}
use borrow.Author.Tests.{eqb-true, ltb-true, leb-true, lt-ltb, le-leb, not-true, eq-eqb}
use Rattle.rules.specs.declared.Block.{Block}
use Rattle.rules.specs.declared.Range.{Range}
use Rattle.rules.specs.Words.{bit, pick, every, range, holds, overlap}
use Rattle.rules.specs.Blocks.{pair, single, wide, blocks, array_size_lem, span, seek, block_of, block_at, write_locked, unlocked, write_locks, read_locks}
use Rattle.rules.proofs.Bools.{and_split, and_both, every_intro, every_at, upto, upto_at, same_test, same_flag, never, not_intro}
use Rattle.rules.proofs.Bits.{apart_at, apart_intro}

-- ---- places and ranges

pub holds_at : (r : Range) (a : ℕ) → holds r a ≡ true → (r.start ≤ a) × (a < r.start + r.size)
unfolding holds
holds_at r a e =
    let h = and_split (leb r.start a) (ltb a (r.start + r.size)) e in
    (leb-true r.start a h.0, ltb-true a (r.start + r.size) h.1)

pub holds_intro : (r : Range) (a : ℕ) → r.start ≤ a → a < r.start + r.size → holds r a ≡ true
unfolding holds
holds_intro r a p q = and_both (le-leb r.start a p) (lt-ltb a (r.start + r.size) q)

pub overlap_at : (r s : Range) → overlap r s ≡ true → max r.start s.start < min (r.start + r.size) (s.start + s.size)
unfolding overlap
overlap_at r s e = ltb-true (max r.start s.start) (min (r.start + r.size) (s.start + s.size)) e

pub overlap_intro : (r s : Range) (a : ℕ) → holds r a ≡ true → holds s a ≡ true → overlap r s ≡ true
unfolding overlap
overlap_intro r s a p q =
    let h = holds_at r a p in
    let k = holds_at s a q in
    lt-ltb (max r.start s.start) (min (r.start + r.size) (s.start + s.size)) (omega arith)

-- ---- the rows

pub forty : length blocks ≡ 40
unfolding blocks wide
forty = refl

pub record Placed (b : Block) : Type 0 where
  pub start_aligned : b.start % 0x2000 ≡ 0
  pub size_aligned : b.size % 0x2000 ≡ 0
  pub inside : b.start + b.size ≤ array_size_lem
  pub some : 0 < b.size
  pub lock : b.write < 47

placed : Block → Bool
placed b = eqb (b.start % 0x2000) 0 && eqb (b.size % 0x2000) 0 && leb (b.start + b.size) array_size_lem && ltb 0 b.size && ltb b.write 47

placed_at : (b : Block) → placed b ≡ true → Placed b
unfolding placed
placed_at b e =
    let h₄ = and_split (eqb (b.start % 0x2000) 0 && eqb (b.size % 0x2000) 0 && leb (b.start + b.size) array_size_lem && ltb 0 b.size) (ltb b.write 47) e in
    let h₃ = and_split (eqb (b.start % 0x2000) 0 && eqb (b.size % 0x2000) 0 && leb (b.start + b.size) array_size_lem) (ltb 0 b.size) h₄.0 in
    let h₂ = and_split (eqb (b.start % 0x2000) 0 && eqb (b.size % 0x2000) 0) (leb (b.start + b.size) array_size_lem) h₃.0 in
    let h₁ = and_split (eqb (b.start % 0x2000) 0) (eqb (b.size % 0x2000) 0) h₂.0 in
    record {
      start_aligned = eqb-true (b.start % 0x2000) 0 h₁.0;
      size_aligned = eqb-true (b.size % 0x2000) 0 h₁.1;
      inside = leb-true (b.start + b.size) array_size_lem h₂.1;
      some = ltb-true 0 b.size h₃.1;
      lock = ltb-true b.write 47 h₄.1;
    }

all_placed : every placed blocks ≡ true
unfolding placed blocks wide
all_placed = refl

-- each block begins and ends at a multiple of 8 KB, within the array, and its write lock is a bit below 47
pub block_placed : (n : ℕ) → n < 40 → Placed (block_at n)
unfolding block_at
block_placed n h = placed_at (get_or blocks n (single 48 0 0)) (every_at placed (single 48 0 0) blocks all_placed n (let e = forty in omega arith))

-- no two rows share a place
apart : upto 40 (λ n. upto n (λ m. not (overlap (span (block_at n)) (span (block_at m))))) ≡ true
unfolding block_at blocks wide overlap
apart = refl

blocks_apart : (n m : ℕ) → n < 40 → m < n → overlap (span (block_at n)) (span (block_at m)) ≡ false
blocks_apart n m h k =
    not-true (overlap (span (block_at n)) (span (block_at m)))
    (upto_at n (λ m. not (overlap (span (block_at n)) (span (block_at m))))
    (upto_at 40 (λ n. upto n (λ m. not (overlap (span (block_at n)) (span (block_at m))))) apart n h) m k)

-- two blocks with a place in common are one
pub blocks_meet : (n m a : ℕ) → n < 40 → m < 40 → holds (span (block_at n)) a ≡ true → holds (span (block_at m)) a ≡ true → n ≡ m
blocks_meet n m a hn hm p q = go (ℕ_discrete n m)
  where
    lower : (x y : ℕ) → x < 40 → y < x → holds (span (block_at x)) a ≡ true → holds (span (block_at y)) a ≡ true → ⊥
    lower x y h k u v = true≢false (sym (overlap_intro (span (block_at x)) (span (block_at y)) a u v) ∙ blocks_apart x y h k)

    order : (n ≡ m → ⊥) → Dec (n < m) → ⊥
    order ne (yes below) = lower m n hm below q p
    order ne (no above) = lower n m hn (omega arith) p q

    go : Dec (n ≡ m) → n ≡ m
    go (yes e) = e
    go (no ne) = absurd (order ne (native.Mathlib.Decide.dec_lt n m))

-- ---- the block of a place

-- the first place of its 8 KB
abbrev group : ℕ → ℕ
group a = a / 0x2000 * 0x2000

holds_group : (b : Block) (a : ℕ) → placed b ≡ true → holds (span b) a ≡ holds (span b) (group a)
holds_group b a e =
    let f = placed_at b e in
    let s = f.start_aligned in
    let z = f.size_aligned in
    same_test (holds (span b) a) (holds (span b) (group a))
    (λ h. let k = holds_at (span b) a h in holds_intro (span b) (group a) (omega arith) (omega arith))
    (λ h. let k = holds_at (span b) (group a) h in holds_intro (span b) a (omega arith) (omega arith))

seek_group : (l : List Block) (a : ℕ) → every placed l ≡ true → seek l a ≡ seek l (group a)
unfolding seek
seek_group [] a e = refl
seek_group (b ∷ bs) a e =
    let h = and_split (placed b) (every placed bs) e in
    ap₂ (λ (x : Bool) (r : ℕ). pick x 0 (suc r)) (holds_group b a h.0) (seek_group bs a h.1)

pub block_of_group : (a : ℕ) → block_of a ≡ block_of (group a)
unfolding block_of
block_of_group a = seek_group blocks a all_placed

-- a test that passes at the 256 groups passes at the group of each place
grouped : (t : ℕ → Bool) → upto 256 t ≡ true → (a : ℕ) → a < array_size_lem → t (a / 0x2000) ≡ true
grouped t e a h = upto_at 256 t e (a / 0x2000) (omega arith)

-- each place lies in one of the forty
pub block_of_lt : (a : ℕ) → a < array_size_lem → block_of a < 40
unfolding block_of seek blocks wide holds
block_of_lt a h =
    subst (λ (x : ℕ). x < 40) (sym (block_of_group a))
    (ltb-true (block_of (group a)) 40 (grouped (λ g. ltb (block_of (g * 0x2000)) 40) refl a h))

-- it lies in the block that is found for it
pub block_holds : (a : ℕ) → a < array_size_lem → holds (span (block_at (block_of a))) a ≡ true
unfolding block_of block_at seek blocks wide holds
block_holds a h =
    holds_group (block_at (block_of a)) a (every_at placed (single 48 0 0) blocks all_placed (block_of a) (let b = block_of_lt a h in let e = forty in omega arith))
    ∙ subst (λ (k : ℕ). holds (span (block_at k)) (group a) ≡ true) (sym (block_of_group a))
    (grouped (λ g. holds (span (block_at (block_of (g * 0x2000)))) (g * 0x2000)) refl a h)

-- and in no other
pub block_only : (n a : ℕ) → n < 40 → a < array_size_lem → holds (span (block_at n)) a ≡ true → n ≡ block_of a
block_only n a h k e = blocks_meet n (block_of a) a h (block_of_lt a k) e (block_holds a k)

-- a page and a sector lie in one block: places in the same 8 KB have the same block
pub same_group : (a b : ℕ) → a / 0x2000 ≡ b / 0x2000 → block_of a ≡ block_of b
same_group a b e = block_of_group a ∙ ap (λ (g : ℕ). block_of (g * 0x2000)) e ∙ sym (block_of_group b)

pub page_in_one : (a b : ℕ) → a / 256 ≡ b / 256 → block_of a ≡ block_of b
page_in_one a b e = same_group a b (omega arith)

pub sector_in_one : (a b : ℕ) → a / 4096 ≡ b / 4096 → block_of a ≡ block_of b
sector_in_one a b e = same_group a b (omega arith)

-- ---- start, size and lock bits of a place's block by shifts and comparisons: every entry of the table is pinned

-- by the number of the place's 8 KB
abbrev pub shifted : ℕ → Block
shifted g =
    pick (ltb g 4) (pair (32 + 2 * g) (g * 0x2000))
    (pick (ltb g 8) (single 30 0x8000 0x8000)
    (pick (ltb g 248) (single (g / 8 - 1) (g / 8 * 0x10000) 0x10000)
    (pick (ltb g 252) (single 31 0x1F0000 0x8000)
    (pair (40 + 2 * (g - 252)) (g * 0x2000)))))

abbrev pub same_row : Block → Block → Bool
same_row b c = eqb b.start c.start && (eqb b.size c.size && (eqb b.write c.write && beq b.paired c.paired))

pub row_ext : (b c : Block) → same_row b c ≡ true → b ≡ c
row_ext b c e =
    let h₁ = and_split (eqb b.start c.start) _ e in
    let h₂ = and_split (eqb b.size c.size) _ h₁.1 in
    let h₃ = and_split (eqb b.write c.write) _ h₂.1 in
    let p = eqb-true b.start c.start h₁.0 in
    let q = eqb-true b.size c.size h₂.0 in
    let r = eqb-true b.write c.write h₃.0 in
    let t = same_flag b.paired c.paired h₃.1 in
    λ i. record { start = p i; size = q i; write = r i; paired = t i }

pub block_by_shifts : (a : ℕ) → a < array_size_lem → block_at (block_of a) ≡ shifted (a / 0x2000)
unfolding block_of block_at seek blocks wide holds
block_by_shifts a h =
    ap block_at (block_of_group a)
    ∙ row_ext (block_at (block_of (group a))) (shifted (a / 0x2000))
    (grouped (λ g. same_row (block_at (block_of (g * 0x2000))) (shifted g)) refl a h)

-- past the array no block holds a place: the number there is that of no row
seek_none : (bs : List Block) (a : ℕ) → every (λ b. leb (b.start + b.size) array_size_lem) bs ≡ true → array_size_lem ≤ a → seek bs a ≡ length bs
unfolding seek
seek_none [] a e h = refl
seek_none (b ∷ bs) a e h =
    let k = and_split (leb (b.start + b.size) array_size_lem) (every (λ b. leb (b.start + b.size) array_size_lem) bs) e in
    let z = leb-true (b.start + b.size) array_size_lem k.0 in
    ap (λ (x : Bool). pick x 0 (suc (seek bs a))) (never (holds (span b) a) (λ i. let g = holds_at (span b) a i in omega arith)) ∙ ap suc (seek_none bs a k.1 h)

all_inside : every (λ b. leb (b.start + b.size) array_size_lem) blocks ≡ true
unfolding blocks wide
all_inside = refl

pub block_none : (a : ℕ) → array_size_lem ≤ a → block_of a ≡ 40
unfolding block_of
block_none a h = seek_none blocks a all_inside h ∙ forty

-- each of the 48 bits is one lock: the write locks of the table are the mask, and so are the read locks
abbrev pub bits_of : (Block → ℕ) → List Block → ℕ
bits_of f [] = 0
bits_of f (b ∷ bs) = f b + bits_of f bs

pub write_bits : bits_of (λ b. 2 ^ b.write) blocks ≡ write_locks
unfolding blocks wide
write_bits = refl

pub read_bits : bits_of (λ b. pick b.paired (2 ^ (b.write + 1)) 0) blocks ≡ read_locks
unfolding blocks wide
read_bits = refl

-- ---- ranges with no write lock

unlocked_from : (p : ℕ) (r : Range) → ((n : ℕ) → n < 40 → overlap (span (block_at n)) r ≡ true → bit (block_at n).write p ≡ false) → unlocked p r ≡ true
unfolding unlocked block_at
unlocked_from p r h =
    every_intro (λ b. not (overlap (span b) r && bit b.write p)) (single 48 0 0) blocks
    (λ n below. not_intro _ (go n (overlap (span (get_or blocks n (single 48 0 0))) r) (let e = forty in h n (omega arith))))
  where
    go : (n : ℕ) (x : Bool) → (x ≡ true → bit (get_or blocks n (single 48 0 0)).write p ≡ false) → (x && bit (get_or blocks n (single 48 0 0)).write p) ≡ false
    go n true k = k refl
    go n false k = refl

unlocked_at : (p : ℕ) (r : Range) → unlocked p r ≡ true → (n : ℕ) → n < 40 → overlap (span (block_at n)) r ≡ true → bit (block_at n).write p ≡ false
unfolding unlocked block_at
unlocked_at p r e n h o =
    after (overlap (span (get_or blocks n (single 48 0 0))) r) (bit (get_or blocks n (single 48 0 0)).write p) o
    (not-true _ (every_at (λ b. not (overlap (span b) r && bit b.write p)) (single 48 0 0) blocks e n (let e = forty in omega arith)))
  where
    after : (x y : Bool) → x ≡ true → (x && y) ≡ false → y ≡ false
    after true y q k = k
    after false y q k = absurd (false≢true q)

-- no place of an unlocked range is write-locked
pub unlocked_place : (p : ℕ) (r : Range) (a : ℕ) → unlocked p r ≡ true → a < array_size_lem → holds r a ≡ true → write_locked p a ≡ false
unfolding write_locked
unlocked_place p r a e h k =
    unlocked_at p r e (block_of a) (block_of_lt a h) (overlap_intro (span (block_at (block_of a))) r a (block_holds a h) k)

pub record Inside (r : Range) (b : Block) : Type 0 where
  pub from : b.start ≤ r.start
  pub to : r.start + r.size ≤ b.start + b.size

-- a range within one block is unlocked exactly where the block's write lock is 0
pub unlocked_inside : (p n : ℕ) (r : Range) → n < 40 → Inside r (block_at n) → 0 < r.size → unlocked p r ≡ not (bit (block_at n).write p)
unlocked_inside p n r h i z =
    same_test (unlocked p r) (not (bit (block_at n).write p))
    (λ e. not_intro _ (unlocked_at p r e n h (overlap_intro (span (block_at n)) r r.start first own)))
    (λ e. unlocked_from p r (λ m below o. subst (λ (k : ℕ). bit (block_at k).write p ≡ false) (only m below o) (not-true _ e)))
  where
    own : holds r r.start ≡ true
    own = holds_intro r r.start (omega arith) (omega arith)

    first : holds (span (block_at n)) r.start ≡ true
    first = let f = i.from in let t = i.to in holds_intro (span (block_at n)) r.start (omega arith) (omega arith)

    only : (m : ℕ) → m < 40 → overlap (span (block_at m)) r ≡ true → n ≡ m
    only m below o =
        let g = overlap_at (span (block_at m)) r o in
        let f = i.from in
        let t = i.to in
        let x : ℕ = max (block_at m).start r.start in
        blocks_meet n m x h below
        (holds_intro (span (block_at n)) x (omega arith) (omega arith))
        (holds_intro (span (block_at m)) x (omega arith) (omega arith))

pub sector_inside : (a : ℕ) → a < array_size_lem → Inside (range (a / 4096 * 4096) 4096) (block_at (block_of a))
sector_inside a h =
    let f = block_placed (block_of a) (block_of_lt a h) in
    let k = holds_at (span (block_at (block_of a))) a (block_holds a h) in
    let s = f.start_aligned in
    let z = f.size_aligned in
    record { from = omega arith; to = omega arith }

pub page_inside : (a : ℕ) → a < array_size_lem → Inside (range (a / 256 * 256) 256) (block_at (block_of a))
page_inside a h =
    let f = block_placed (block_of a) (block_of_lt a h) in
    let k = holds_at (span (block_at (block_of a))) a (block_holds a h) in
    let s = f.start_aligned in
    let z = f.size_aligned in
    record { from = omega arith; to = omega arith }

pub block_inside : (n : ℕ) → Inside (span (block_at n)) (block_at n)
block_inside n = record { from = omega arith; to = omega arith }

-- ---- the array is unlocked exactly where no write lock is set

-- the block with write lock k
with_lock : ℕ → ℕ
with_lock k = pick (ltb k 32) (39 - k) ((46 - k) / 2)

each_lock : upto 48 (λ k. not (bit k write_locks) || (ltb (with_lock k) 40 && eqb (block_at (with_lock k)).write k)) ≡ true
unfolding with_lock bit block_at blocks wide
each_lock = refl

lock_masked : upto 40 (λ n. bit (block_at n).write write_locks) ≡ true
unfolding bit block_at blocks wide
lock_masked = refl

pub array_unlocked : (p : ℕ) → p < 2 ^ 48 → unlocked p (range 0 array_size_lem) ≡ eqb (bit_and p write_locks) 0
array_unlocked p h =
    same_test (unlocked p (range 0 array_size_lem)) (eqb (bit_and p write_locks) 0)
    (λ e. eq-eqb (bit_and p write_locks) 0 (apart_intro 48 p write_locks h (λ k below o. never (bit k write_locks) (λ w. true≢false (sym o ∙ off e k below w)))))
    (λ e. unlocked_from p (range 0 array_size_lem) (λ n below o.
    never (bit (block_at n).write p)
    (λ set. true≢false (sym (upto_at 40 (λ n. bit (block_at n).write write_locks) lock_masked n below)
    ∙ apart_at p write_locks (eqb-true (bit_and p write_locks) 0 e) (block_at n).write set))))
  where
    after : (x y : Bool) → (not x || y) ≡ true → x ≡ true → y ≡ true
    after true y q w = q
    after false y q w = absurd (false≢true w)

    off : unlocked p (range 0 array_size_lem) ≡ true → (k : ℕ) → k < 48 → bit k write_locks ≡ true → bit k p ≡ false
    off e k below w =
        let c = and_split (ltb (with_lock k) 40) (eqb (block_at (with_lock k)).write k)
        (after (bit k write_locks) _ (upto_at 48 (λ k. not (bit k write_locks) || (ltb (with_lock k) 40 && eqb (block_at (with_lock k)).write k)) each_lock k below) w) in
        let n : with_lock k < 40 = ltb-true (with_lock k) 40 c.0 in
        let f = block_placed (with_lock k) n in
        let i = f.inside in
        let z = f.some in
        subst (λ (j : ℕ). bit j p ≡ false) (eqb-true (block_at (with_lock k)).write k c.1)
        (unlocked_at p (range 0 array_size_lem) e (with_lock k) n
        (overlap_intro (span (block_at (with_lock k))) (range 0 array_size_lem) (block_at (with_lock k)).start
        (holds_intro (span (block_at (with_lock k))) (block_at (with_lock k)).start (omega arith) (omega arith))
        (holds_intro (range 0 array_size_lem) (block_at (with_lock k)).start (omega arith) (omega arith))))

-- nothing is locked in a range without places
pub unlocked_nowhere : (p : ℕ) → unlocked p (range 0 0) ≡ true
unlocked_nowhere p = unlocked_from p (range 0 0) (λ n below o. let g = overlap_at (span (block_at n)) (range 0 0) o in absurd (omega arith))
