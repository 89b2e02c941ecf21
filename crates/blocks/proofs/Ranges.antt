-- The range of work, by its kind. Assumes nothing.
use Prim.Native.Nat.{ℕ, ◌*◌, ◌/◌, ◌^◌, ◌<◌}
use mathlib.Core.Path.{◌≡◌, sym, ap, ◌∙◌, subst}
use mathlib.Core.Bool.{Bool, true, not}
use native.Mathlib.Omega.{arith}
use lib.Dec.{eqb}
use lib.Bits.{bit_and}
use borrow.Author.Tests.{ltb-true}
use Rattle.rules.specs.declared.Block.{Block}
use Rattle.rules.specs.declared.Work.{Work}
use Rattle.rules.specs.Words.{bit, range, nowhere}
use Rattle.rules.specs.Blocks.{array_size_lem, block_of, block_at, span, write_locked, unlocked, write_locks}
use Rattle.rules.specs.Works.{array_range}
use Rattle.rules.specs.WellFormed.{numbers_right}
use Rattle.rules.proofs.Blocks.{block_of_lt, block_placed, unlocked_inside, sector_inside, page_inside, block_inside, array_unlocked, unlocked_nowhere, Inside}

-- ---- the number of well-numbered work

pub sector_number : (w : Work) (n : ℕ) → w ≡ Work.EraseSector n → numbers_right w ≡ true → n < 512
sector_number w n e h = ltb-true n 512 (subst (λ (w : Work). numbers_right w ≡ true) e h)

pub block_number : (w : Work) (n : ℕ) → w ≡ Work.EraseBlock n → numbers_right w ≡ true → n < 40
block_number w n e h = ltb-true n 40 (subst (λ (w : Work). numbers_right w ≡ true) e h)

pub page_number : (w : Work) (n : ℕ) → w ≡ Work.ProgramPage n → numbers_right w ≡ true → n < 8192
page_number w n e h = ltb-true n 8192 (subst (λ (w : Work). numbers_right w ≡ true) e h)

-- ---- a range is unlocked where the lock found at its start is not set

at_sector : (p n : ℕ) → n < 512 → unlocked p (range (n * 4096) 4096) ≡ not (write_locked p (n * 4096))
unfolding write_locked
at_sector p n h =
    let a : n * 4096 < array_size_lem = omega arith in
    let e : n * 4096 / 4096 * 4096 ≡ n * 4096 = omega arith in
    unlocked_inside p (block_of (n * 4096)) (range (n * 4096) 4096) (block_of_lt (n * 4096) a)
    (subst (λ (s : ℕ). Inside (range s 4096) (block_at (block_of (n * 4096)))) e (sector_inside (n * 4096) a)) (omega arith)

at_page : (p n : ℕ) → n < 8192 → unlocked p (range (n * 256) 256) ≡ not (write_locked p (n * 256))
unfolding write_locked
at_page p n h =
    let a : n * 256 < array_size_lem = omega arith in
    let e : n * 256 / 256 * 256 ≡ n * 256 = omega arith in
    unlocked_inside p (block_of (n * 256)) (range (n * 256) 256) (block_of_lt (n * 256) a)
    (subst (λ (s : ℕ). Inside (range s 256) (block_at (block_of (n * 256)))) e (page_inside (n * 256) a)) (omega arith)

pub unlocked_sector : (p n : ℕ) (w : Work) (x : Bool) → w ≡ Work.EraseSector n → numbers_right w ≡ true → x ≡ write_locked p (n * 4096) → not x ≡ unlocked p (array_range w)
unlocked_sector p n w x e h f = ap not f ∙ sym (at_sector p n (sector_number w n e h)) ∙ ap (λ (w : Work). unlocked p (array_range w)) (sym e)

pub unlocked_page : (p n : ℕ) (w : Work) (x : Bool) → w ≡ Work.ProgramPage n → numbers_right w ≡ true → x ≡ write_locked p (n * 256) → not x ≡ unlocked p (array_range w)
unlocked_page p n w x e h f = ap not f ∙ sym (at_page p n (page_number w n e h)) ∙ ap (λ (w : Work). unlocked p (array_range w)) (sym e)

pub unlocked_block : (p n : ℕ) (b : Block) (w : Work) (x : Bool) → w ≡ Work.EraseBlock n → numbers_right w ≡ true → b ≡ block_at n → x ≡ bit b.write p
    → not x ≡ unlocked p (array_range w)
unlocked_block p n b w x e h g f =
    let below = block_number w n e h in
    ap not (f ∙ ap (λ (b : Block). bit b.write p) g)
    ∙ sym (unlocked_inside p n (span (block_at n)) below (block_inside n) (block_placed n below).some)
    ∙ ap (λ (w : Work). unlocked p (array_range w)) (sym e)

pub unlocked_array : (p : ℕ) (w : Work) → w ≡ Work.EraseArray → p < 2 ^ 48 → eqb (bit_and p write_locks) 0 ≡ unlocked p (array_range w)
unlocked_array p w e h = sym (array_unlocked p h) ∙ ap (λ (w : Work). unlocked p (array_range w)) (sym e)

-- work with no range in the array
pub unlocked_none : (p : ℕ) (w : Work) → nowhere ≡ array_range w → true ≡ unlocked p (array_range w)
unlocked_none p w e = sym (unlocked_nowhere p) ∙ ap (unlocked p) e
