-- Demand 3 is not empty, and it is wrong with power cuts, without the lock-down, without the read lock or without the write lock: runs of a two-keyed
-- of chips, which antt computes. That the chips are idle with nothing suspended is not needed (proofs/Keys). Assumes nothing.
use Prim.Native.Nat.{ℕ, ◌<◌}
use mathlib.Core.Path.{◌≡◌, refl, sym, ap, ◌∙◌}
use mathlib.Core.Bool.{Bool, true, false, true≢false}
use native.Mathlib.Omega.{arith}
use lib.Dec.{ltb}
use borrow.Author.Tests.{ltb-true}
use Rattle.rules.specs.Words.{bit, holds, overlap, Lent}
use Rattle.rules.specs.Blocks.{array_size_lem, wide, blocks, seek, span, block_of, block_at, write_locked, read_locked, unlocked}
use Rattle.rules.specs.Works.{finish}
use Rattle.rules.specs.Frames.{frames, find, form_of}
use Rattle.rules.specs.Reading.{place_cell, shown}
use Rattle.rules.specs.Programs.{blank, fill, page_buffer, security_buffer, reaches, reaches_first}
use Rattle.rules.specs.WellFormed.{first_ff, locks_right, works_right, well_formed}
use Rattle.rules.specs.Numbers.{command_tests, frame_tests, completion_tests, cut_tests}
use Rattle.rules.specs.Machine.{frame_chip, frame_cell_lem, frame_reply, frame_marks, frame, worked_array_lem, worked_security_lem, completed_chip_lem, completion, cut_chip_lem, power_cut, step, run}
use Rattle.rules.specs.Demands.{key_place, TwoChips}
use Rattle.rules.specs.Cases.{outcome_after}
use Rattle.rules.specs.KeyCases.{keyed, KeyRead, both_locks, read_lock_only, write_lock_only, read_across, read_after_cut, read_after_write, erased_keys, WithPowerCuts, WithNoLockDown, WithReadLockOnly, WithWriteLockOnly}
use Rattle.rules.proofs.Blocks.{holds_intro, block_only}

-- ---- the two-keyed

-- a place of the first block is one of block 7 of the table
first_block : (key : ℕ → ℕ → Bool) (p a : ℕ) → a < 0x2000 → (7 ≡ block_of a → key p a ≡ true) → key p a ≡ true
unfolding block_at wide blocks
first_block key p a below h = h (block_only 7 a (omega arith) (omega arith) (holds_intro (span (block_at 7)) a (omega arith) below))

module _ (key : ℕ → ℕ → Bool) (locks : ℕ) (locked : (a : ℕ) → 7 ≡ block_of a → key locks a ≡ true) where
  -- keys 11 and 22
  two_keyed : (down : Bool) → TwoChips key down (keyed locks down 0x11) (keyed locks down 0x22)
  two_keyed down =
      record {
        same_record = refl;
        locked_down = refl;
        idle = refl;
        nothing_suspended = refl;
        same_security = refl;
        same_size = refl;
        alike = λ a below k. same a below k (ltb a 0x2000) refl;
      }
    where
      same : (a : ℕ) → a < array_size_lem → key locks a ≡ false → (b : Bool) → ltb a 0x2000 ≡ b
          → (keyed locks down 0x11).array.byte a ≡ (keyed locks down 0x22).array.byte a
      same a below k true e = absurd (true≢false (sym (first_block key locks a (ltb-true a 0x2000 e) (locked a)) ∙ k))
      same a below k false e = rw e

both_read : (a : ℕ) → 7 ≡ block_of a → key_place both_locks a ≡ true
unfolding read_locked write_locked block_at blocks bit
both_read a e = rw (sym e)

read_only : (a : ℕ) → 7 ≡ block_of a → read_locked read_lock_only a ≡ true
unfolding read_locked block_at blocks bit
read_only a e = rw (sym e)

write_only : (a : ℕ) → 7 ≡ block_of a → write_locked write_lock_only a ≡ true
unfolding write_locked block_at blocks bit
write_only a e = rw (sym e)

-- a two-keyed that meets the demand's hypotheses; its records are well-formed
pub two_chips : TwoChips key_place true (keyed both_locks true 0x11) (keyed both_locks true 0x22)
two_chips = two_keyed key_place both_locks both_read true

pub two_well_formed : well_formed (keyed both_locks true 0x11).chip ≡ true
unfolding well_formed locks_right works_right first_ff blank unlocked blocks overlap wide
two_well_formed = refl

-- whatever the key, the read is done and gives 00 with mark 1 at the key place and FF with mark 1 at the place beside it
pub read_across_lem : (key : ℕ) → KeyRead (outcome_after (keyed both_locks true key) read_across)
unfolding bit holds overlap wide blocks seek block_of block_at write_locked read_locked unlocked frames find form_of place_cell shown blank first_ff locks_right works_right well_formed frame_tests command_tests frame_chip frame_cell_lem frame_reply frame_marks frame completion completion_tests completed_chip_lem worked_array_lem worked_security_lem finish step run
read_across_lem key = record { done = refl; locked = refl; locked_mark = refl; beside = refl; beside_mark = refl }

-- ---- with less, it is wrong

-- keys leak after a power cut
pub power_cut_leaks : WithPowerCuts → ⊥
unfolding bit holds overlap wide blocks seek block_of block_at write_locked read_locked unlocked finish frames find form_of place_cell shown blank fill page_buffer security_buffer reaches reaches_first first_ff locks_right works_right well_formed frame_tests command_tests completion_tests cut_tests frame_chip frame_cell_lem frame_reply frame_marks frame worked_array_lem worked_security_lem completed_chip_lem completion cut_chip_lem power_cut step run
power_cut_leaks h =
    let k = h (keyed both_locks true 0x11) (keyed both_locks true 0x22) read_after_cut two_chips tt in
    let e : ◌≡◌ {A = ℕ} 0x11 0x22 = ap (λ (r : Lent). r.byte 0) k.1.0.same_reply in
    absurd (omega arith)

-- and where the register is not locked down
pub no_lock_down_leaks : WithNoLockDown → ⊥
unfolding bit holds overlap wide blocks seek block_of block_at write_locked read_locked unlocked finish frames find form_of place_cell shown blank fill page_buffer security_buffer reaches reaches_first first_ff locks_right works_right well_formed frame_tests command_tests completion_tests cut_tests frame_chip frame_cell_lem frame_reply frame_marks frame worked_array_lem worked_security_lem completed_chip_lem completion cut_chip_lem power_cut step run
no_lock_down_leaks h =
    let k = h (keyed both_locks false 0x11) (keyed both_locks false 0x22) read_after_write (two_keyed key_place both_locks both_read false) tt in
    let e : ◌≡◌ {A = ℕ} 0x11 0x22 = ap (λ (r : Lent). r.byte 0) k.1.1.0.same_reply in
    absurd (omega arith)

-- and where only the write lock is set
pub write_lock_only_leaks : WithWriteLockOnly → ⊥
unfolding bit holds overlap wide blocks seek block_of block_at write_locked read_locked unlocked finish frames find form_of place_cell shown blank fill page_buffer security_buffer reaches reaches_first first_ff locks_right works_right well_formed frame_tests command_tests completion_tests cut_tests frame_chip frame_cell_lem frame_reply frame_marks frame worked_array_lem worked_security_lem completed_chip_lem completion cut_chip_lem power_cut step run
write_lock_only_leaks h =
    let k = h (keyed write_lock_only true 0x11) (keyed write_lock_only true 0x22) read_across (two_keyed write_locked write_lock_only write_only true) tt in
    let e : ◌≡◌ {A = ℕ} 0x11 0x22 = ap (λ (r : Lent). r.byte 0) k.0.same_reply in
    absurd (omega arith)

-- where only the read lock is set, keys change
pub read_lock_only_changes : WithReadLockOnly → ⊥
unfolding bit holds overlap wide blocks seek block_of block_at write_locked read_locked unlocked finish frames find form_of place_cell shown blank fill page_buffer security_buffer reaches reaches_first first_ff locks_right works_right well_formed frame_tests command_tests completion_tests cut_tests frame_chip frame_cell_lem frame_reply frame_marks frame worked_array_lem worked_security_lem completed_chip_lem completion cut_chip_lem power_cut step run
read_lock_only_changes h =
    let k = h (keyed read_lock_only true 0x11) (keyed read_lock_only true 0x22) erased_keys (two_keyed read_locked read_lock_only read_only true) tt in
    let e : ◌≡◌ {A = ℕ} 0xFF 0x11 = k.1.1.0.first_keys 0 (omega arith) refl in
    absurd (omega arith)
