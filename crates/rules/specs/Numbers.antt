-- 01, Numbers the bench gives back; 02, W-201, number 13: the conditions, each from its row, and the order in which they are tested.
use Rattle.std.specs.Prelude.{ℕ, ◌*◌, ◌/◌, Bool, not, ◌&&◌, ◌||◌, List, [], ◌∷◌, eqb, ltb, leb, length, Result, Ok, Err}
use Rattle.std.specs.Int.Bits.{bit_and}
use Rattle.rules.specs.declared.Chip.{Chip}
use Rattle.rules.specs.declared.Circumstances.{Circumstances}
use Rattle.rules.specs.declared.Rest.{Rest}
use Rattle.rules.specs.declared.Refusal.{Refusal}
use Rattle.rules.specs.Words.{pick, one_of, range, holds, Lent}
use Rattle.rules.specs.Blocks.{array_size_lem, security_size_lem, block_of, block_at, span, write_locked, write_locks}
use Rattle.rules.specs.Works.{is_nothing, can_suspend, array_range}
use Rattle.rules.specs.Registers.{busy, wse, wsp}
use Rattle.rules.specs.Frames.{form_of, listed, length_right, sent_byte, opcode, address}
use Rattle.rules.specs.Bursts.{last_burst}
use Rattle.rules.specs.Programs.{reaches_first}
use Rattle.rules.specs.WellFormed.{well_formed}

-- ---- the answer's number

abbrev pub refusal_number : Refusal → ℕ
refusal_number Refusal.Malformed = 1
refusal_number Refusal.Empty = 2
refusal_number Refusal.NotListed = 3
refusal_number Refusal.WrongLength = 4
refusal_number Refusal.Busy = 5
refusal_number Refusal.NoEnable = 6
refusal_number Refusal.NoIoc = 7
refusal_number Refusal.Suspension = 8
refusal_number Refusal.NoWel = 9
refusal_number Refusal.Closed = 10
refusal_number Refusal.WriteLocked = 11
refusal_number Refusal.NothingRuns = 12
refusal_number Refusal.NoSuchBurst = 13

-- done, or refused
abbrev pub Answer : Type 0
Answer = Result (Unit {0}) Refusal

abbrev pub answer_number : Answer → ℕ
answer_number (Ok x) = 0
answer_number (Err r) = refusal_number r

-- ---- what an event finds, and what a frame carries

pub record State : Type 0 where
  pub chip : Chip
  pub array : Lent
  pub security : Lent

pub record Frame : Type 0 where
  pub sent : List ℕ
  pub reply : Lent
  pub marks : Lent
  pub circumstances : Circumstances

-- ---- the conditions, those of a frame by its opcode o

-- 1: record not well-formed, or a length outside "Sizes"
abbrev pub state_right : State → Bool
state_right s = well_formed s.chip && eqb s.array.size array_size_lem && eqb s.security.size security_size_lem

abbrev pub frame_right : Frame → Bool
frame_right f = leb (length f.sent) 65536 && leb f.reply.size 65536 && eqb f.reply.size f.marks.size

abbrev pub malformed : State → Frame → Bool
malformed s f = not (state_right s && frame_right f)

-- 2: frame empty
abbrev pub empty_frame : List ℕ → Bool
empty_frame sent = eqb (length sent) 0

-- 3: opcode not listed, or not in this protocol
abbrev pub not_listed_lem : Rest → ℕ → Bool
not_listed_lem r o = not (listed r.flags.sqi (form_of o))

-- 4: length not as listed
abbrev pub wrong_length_lem : Rest → ℕ → List ℕ → Bool
wrong_length_lem r o sent = not (length_right r.flags.sqi (form_of o) (length sent))

-- 5: BUSY, and opcode not 05, 66, 99, B0
abbrev pub while_busy : Rest → ℕ → Bool
while_busy r o = busy r && not (one_of o (0x05 ∷ 0x66 ∷ 0x99 ∷ 0xB0 ∷ []))

-- 6: 99 with no enable
abbrev pub no_enable : Rest → ℕ → Bool
no_enable r o = one_of o (0x99 ∷ []) && not r.flags.enable

-- 7: 6B, 32 or EC with IOC 0
abbrev pub no_ioc : Rest → ℕ → Bool
no_ioc r o = one_of o (0x6B ∷ 0x32 ∷ 0xEC ∷ []) && not r.flags.ioc

-- 8, clause by clause
-- B0 unless 20, D8, 02 or 32 runs and nothing is suspended
abbrev pub suspends_wrongly : Rest → ℕ → Bool
suspends_wrongly r o = one_of o (0xB0 ∷ []) && not (can_suspend r.works.running && is_nothing r.works.suspended)

-- 30 with nothing suspended
abbrev pub resumes_nothing : Rest → ℕ → Bool
resumes_nothing r o = one_of o (0x30 ∷ []) && is_nothing r.works.suspended

-- C7, 01, 42, 8D, E8, 98, A5, 85 while anything is
abbrev pub must_wait : Rest → ℕ → Bool
must_wait r o = one_of o (0xC7 ∷ 0x01 ∷ 0x42 ∷ 0x8D ∷ 0xE8 ∷ 0x98 ∷ 0xA5 ∷ 0x85 ∷ []) && not (is_nothing r.works.suspended)

-- with WSE 1, 20 and D8, and 02 or 32 into the range
abbrev pub beside_erase : Rest → ℕ → List ℕ → Bool
beside_erase r o sent =
    wse r
    && (one_of o (0x20 ∷ 0xD8 ∷ [])
    || one_of o (0x02 ∷ 0x32 ∷ []) && holds (array_range r.works.suspended) (address sent))

-- with WSP 1, 02 and 32, and 20 or D8 whose range holds the page
abbrev pub beside_program : Rest → ℕ → List ℕ → Bool
beside_program r o sent =
    wsp r
    && (one_of o (0x02 ∷ 0x32 ∷ [])
    || one_of o (0x20 ∷ []) && holds (range (address sent / 4096 * 4096) 4096) (array_range r.works.suspended).start
    || one_of o (0xD8 ∷ []) && holds (span (block_at (block_of (address sent)))) (array_range r.works.suspended).start)

abbrev pub suspension : Rest → ℕ → List ℕ → Bool
suspension r o sent = suspends_wrongly r o || resumes_nothing r o || must_wait r o || beside_erase r o sent || beside_program r o sent

-- 9: WEL needed and 0
abbrev pub no_wel : Rest → ℕ → Bool
no_wel r o =
    one_of o (0x20 ∷ 0xD8 ∷ 0xC7 ∷ 0x02 ∷ 0x32 ∷ 0xA5 ∷ 0x85 ∷ 0x01 ∷ 0xE8 ∷ 0x42 ∷ 0x8D ∷ 0x98 ∷ []) && not r.flags.wel

-- 10: 42 or 98 with WPLD 1; A5 or 85 with SEC 1; A5 that sends a byte to places 0 to 7
abbrev pub closed : Rest → ℕ → List ℕ → Bool
closed r o sent =
    one_of o (0x42 ∷ 0x98 ∷ []) && r.flags.wpld
    || one_of o (0xA5 ∷ 0x85 ∷ []) && r.flags.sec
    || one_of o (0xA5 ∷ []) && reaches_first sent

-- 11: 20, D8, 02, 32 in a write-locked block; C7 with a write lock set
abbrev pub locked_target : Rest → ℕ → List ℕ → Bool
locked_target r o sent =
    one_of o (0x20 ∷ 0xD8 ∷ 0x02 ∷ 0x32 ∷ []) && write_locked r.locks.protection (address sent)
    || one_of o (0xC7 ∷ []) && not (eqb (bit_and r.locks.protection write_locks) 0)

-- 12: completion with nothing running
abbrev pub nothing_runs : Rest → Bool
nothing_runs r = is_nothing r.works.running

-- 13: a C0 byte above 03
abbrev pub no_such_burst : ℕ → List ℕ → Bool
no_such_burst o sent = one_of o (0xC0 ∷ []) && ltb last_burst (sent_byte sent 1)

-- ---- the order

-- a number and its condition
pub record Test : Type 0 where
  pub number : ℕ
  pub applies : Bool

abbrev pub test : ℕ → Bool → Test
test n b = record { number = n; applies = b }

-- the number of the first test whose condition holds, 0 where none does
abbrev pub first : List Test → ℕ
first [] = 0
first (t ∷ ts) = pick t.applies t.number (first ts)

-- of a frame that is not empty, with a well-formed record and right lengths
unfoldable pub command_tests : Rest → List ℕ → List Test
command_tests r sent =
    test 3 (not_listed_lem r (opcode sent))
    ∷ test 4 (wrong_length_lem r (opcode sent) sent)
    ∷ test 5 (while_busy r (opcode sent))
    ∷ test 6 (no_enable r (opcode sent))
    ∷ test 7 (no_ioc r (opcode sent))
    ∷ test 13 (no_such_burst (opcode sent) sent)
    ∷ test 8 (suspension r (opcode sent) sent)
    ∷ test 9 (no_wel r (opcode sent))
    ∷ test 10 (closed r (opcode sent) sent)
    ∷ test 11 (locked_target r (opcode sent) sent)
    ∷ []

unfoldable pub frame_tests : State → Frame → List Test
frame_tests s f = test 1 (malformed s f) ∷ test 2 (empty_frame f.sent) ∷ command_tests s.chip.rest f.sent

unfoldable pub completion_tests : State → List Test
completion_tests s = test 1 (not (state_right s)) ∷ test 12 (nothing_runs s.chip.rest) ∷ []

unfoldable pub cut_tests : State → List Test
cut_tests s = test 1 (not (state_right s)) ∷ []
