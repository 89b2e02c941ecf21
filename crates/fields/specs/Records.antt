-- The record that a line's slots say, from slot 9 on: `record` sets it, `is` asks for it.
use Rattle.std.specs.Prelude.{ℕ, Bool, not, ◌&&◌, List, eqb, get_or}
use Rattle.rules.specs.declared.Chip.{Chip}
use Rattle.rules.specs.declared.Flags.{Flags}
use Rattle.rules.specs.declared.Rest.{Rest}
use Rattle.rules.specs.declared.Work.{Work}
use Rattle.rules.specs.Words.{num}
use Rattle.rules.specs.Bursts.{burst_byte, burst_of}
use Rattle.rules.specs.Fields.{locks_of, works_of, flags_of, rest_of, chip_of}
use Rattle.rules.specs.Programs.{blank}
use Rattle.numbering.specs.Numbering.{kind_of, number_of, work_of}

abbrev pub slot : List ℕ → ℕ → ℕ
slot s i = get_or s i 0

-- a flag that stands on the line
abbrev pub said : List ℕ → ℕ → Bool
said s i = not (eqb (slot s i) 0)

unfoldable pub record_of : List ℕ → Chip
record_of s =
    chip_of blank
    (rest_of
    (locks_of (slot s 11) (slot s 12))
    (works_of (work_of (slot s 13) (slot s 14)) (work_of (slot s 15) (slot s 16)))
    (flags_of (said s 17) (said s 18) (said s 19) (said s 20) (said s 21) (said s 22) (said s 23) (said s 10))
    (burst_of (slot s 9)))

-- ---- two records are the same but for the buffer

unfoldable pub same_work : Work → Work → Bool
same_work a b = eqb (kind_of a) (kind_of b) && eqb (number_of a) (number_of b)

unfoldable pub same_flags_lem : Flags → Flags → Bool
same_flags_lem a b =
    eqb (num a.sqi) (num b.sqi)
    && eqb (num a.wel) (num b.wel)
    && eqb (num a.ioc) (num b.ioc)
    && eqb (num a.wpen) (num b.wpen)
    && eqb (num a.wpld) (num b.wpld)
    && eqb (num a.sec) (num b.sec)
    && eqb (num a.enable) (num b.enable)
    && eqb (num a.ba) (num b.ba)

unfoldable pub same_rest_lem : Rest → Rest → Bool
same_rest_lem a b =
    eqb a.locks.protection b.locks.protection
    && eqb a.locks.permanent b.locks.permanent
    && same_work a.works.running b.works.running
    && same_work a.works.suspended b.works.suspended
    && same_flags_lem a.flags b.flags
    && eqb (burst_byte a.burst) (burst_byte b.burst)

unfoldable pub same_record_lem : Chip → List ℕ → Bool
same_record_lem c s = same_rest_lem c.rest (record_of s).rest
