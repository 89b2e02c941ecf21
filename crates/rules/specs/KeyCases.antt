-- Demand 3 at a pair of chips, and what becomes of it with less: one event list for each. Proved in proofs/KeyCases.
use Rattle.std.specs.Prelude.{ℕ, ◌+◌, ◌^◌, ◌≡◌, Bool, true, false, List, ltb}
use Rattle.rules.specs.Words.{pick, written}
use Rattle.rules.specs.Blocks.{array_size_lem, read_locked, write_locked}
use Rattle.rules.specs.Fields.{chip_of, with_wpld, with_protection}
use Rattle.rules.specs.Commands.{new_chip}
use Rattle.rules.specs.Numbers.{State}
use Rattle.rules.specs.Machine.{Outcome, Event}
use Rattle.rules.specs.Demands.{key_place, Uncut, KeepsKeys}
use Rattle.rules.specs.Cases.{events, new_state}

-- a chip whose block 000000 to 001FFF is full of one key byte, the rest FF
abbrev pub keyed : ℕ → Bool → ℕ → State
keyed locks down key =
    record {
      chip = chip_of new_chip.buffer (with_protection locks (with_wpld down new_chip.rest));
      array = written array_size_lem (λ a. pick (ltb a 0x2000) key 0xFF);
      security = (new_state true).security;
    }

-- the block's read lock is bit 33, its write lock bit 32
abbrev pub both_locks : ℕ
both_locks = 2 ^ 33 + 2 ^ 32

abbrev pub read_lock_only : ℕ
read_lock_only = 2 ^ 33

abbrev pub write_lock_only : ℕ
write_lock_only = 2 ^ 32

-- from the block's last place into the block beside it
abbrev pub read_across : List Event
read_across = events "03 00 1F FF"

-- what it gives under both locks: 00 at the key place, the stored FF beside it
pub record KeyRead (o : Outcome) : Type 0 where
  pub done : o.number ≡ 0
  pub locked : o.reply.byte 0 ≡ 0x00
  pub locked_mark : o.marks.byte 0 ≡ 1
  pub beside : o.reply.byte 1 ≡ 0xFF
  pub beside_mark : o.marks.byte 1 ≡ 1

-- a power cut takes the read locks
abbrev pub read_after_cut : List Event
read_after_cut = events "cut 0, 03 00 1F FF"

-- with no lock-down 42 takes them
abbrev pub read_after_write : List Event
read_after_write = events "06, 42 00 00 00 00 00 00, 03 00 1F FF"

-- with no write lock an erase takes the keys
abbrev pub erased_keys : List Event
erased_keys = events "06, 20 00 00 00, completion"

abbrev pub AnyRun : List Event → Type 0
AnyRun es = Unit {0}

-- the demand with less
abbrev pub WithPowerCuts : Type 0
WithPowerCuts = KeepsKeys key_place true AnyRun

abbrev pub WithNoLockDown : Type 0
WithNoLockDown = KeepsKeys key_place false Uncut

abbrev pub WithReadLockOnly : Type 0
WithReadLockOnly = KeepsKeys read_locked true Uncut

abbrev pub WithWriteLockOnly : Type 0
WithWriteLockOnly = KeepsKeys write_locked true Uncut
