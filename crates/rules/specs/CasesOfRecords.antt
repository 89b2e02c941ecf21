-- 01, A well-formed chip record: each sentence at records on both sides of its edge. Proved in proofs/Records.
use Rattle.std.specs.Prelude.{ℕ, ◌≡◌, Bool, true, false, List, [], ◌∷◌, eqb, length, get_or, set}
use Prim.Native.Char.{code}
use Prim.Native.String.{String}
use Rattle.rules.specs.declared.Chip.{Chip}
use Rattle.rules.specs.declared.Work.{Work}
use Rattle.rules.specs.Words.{bit, pick, Each}
use Rattle.rules.specs.Programs.{blank}
use Rattle.rules.specs.Fields.{flags_in, chip_of, with_flags, with_protection, with_permanent, with_running, with_suspended}
use Rattle.rules.specs.Commands.{new_chip}
use Rattle.rules.specs.WellFormed.{well_formed}
use Rattle.rules.specs.Texts.{ascii}
use Rattle.rules.specs.Cases.{split, words, numeral}

-- ---- a record as a text: "protection 000000000001, runs 02 256, aside 20 3, buffer 7, flags 20"
-- What is not named is as in a new chip with no lock; "new" has the locks of power-up. Work is its opcode and its number; "buffer 7" has 00 at
-- place 7 of the buffer; flags are their number

abbrev pub work_named : ℕ → ℕ → Work
work_named o n =
    pick (eqb o 0x20) (Work.EraseSector n)
    (pick (eqb o 0xD8) (Work.EraseBlock n)
    (pick (eqb o 0xC7) Work.EraseArray
    (pick (eqb o 0x02) (Work.ProgramPage n)
    (pick (eqb o 0xA5) (Work.ProgramSecurity n)
    (pick (eqb o 0x85) Work.LockSecurity
    (pick (eqb o 0x01) (Work.WriteConfiguration (bit 0 n) (bit 1 n))
    (pick (eqb o 0xE8) (Work.AddPermanent n) Work.Nothing)))))))

-- one part of the text, by the first letters of its first word
abbrev pub with_part : List (List ℕ) → Chip → Chip
with_part [] c = c
with_part (w ∷ ws) c =
    let hex = numeral 16 0 (get_or ws 0 []) in
    let decimal = numeral 10 0 (get_or ws 0 []) in
    let named = work_named hex (numeral 10 0 (get_or ws 1 [])) in
    pick (eqb (get_or w 0 0) (code "n")) new_chip
    (pick (eqb (get_or w 0 0) (code "r")) (chip_of c.buffer (with_running named c.rest))
    (pick (eqb (get_or w 0 0) (code "a")) (chip_of c.buffer (with_suspended named c.rest))
    (pick (eqb (get_or w 0 0) (code "b")) (chip_of (set blank decimal 0x00) c.rest)
    (pick (eqb (get_or w 0 0) (code "f")) (chip_of c.buffer (with_flags (flags_in hex) c.rest))
    (pick (eqb (get_or w 1 0) (code "r")) (chip_of c.buffer (with_protection hex c.rest)) (chip_of c.buffer (with_permanent hex c.rest)))))))

abbrev pub with_parts : List (List ℕ) → Chip → Chip
with_parts [] c = c
with_parts (t ∷ ts) c = with_parts ts (with_part (words t) c)

abbrev pub record_of : String → Chip
record_of t = with_parts (split (code ",") (ascii t)) (chip_of blank (with_protection 0 new_chip.rest))

-- ---- how a row is written

pub record RecordCase : Type 0 where
  pub sentence : String
  pub chip : Chip
  pub formed : Bool

infixl 20 ◌holds_of◌
abbrev pub ◌holds_of◌ : String → String → RecordCase
t holds_of r = record { sentence = t; chip = record_of r; formed = true }

infixl 20 ◌fails_of◌
abbrev pub ◌fails_of◌ : String → String → RecordCase
t fails_of r = record { sentence = t; chip = record_of r; formed = false }

-- ---- the rows

unfoldable pub records : List RecordCase
records =
    ("A new chip" holds_of "new")
    ∷ ("whatever the flags are" holds_of "new, flags FF")
    -- Page numbers below 8,192, in the Security ID below 8; erase ranges are a sector, a block or the array.
    ∷ ("Page numbers below 8,192" holds_of "runs 02 8191")
    ∷ ("Page numbers below 8,192" fails_of "runs 02 8192")
    ∷ ("Page numbers below 8,192" holds_of "aside 02 8191")
    ∷ ("Page numbers below 8,192" fails_of "aside 02 8192")
    ∷ ("in the Security ID below 8" holds_of "runs A5 7")
    ∷ ("in the Security ID below 8" fails_of "runs A5 8")
    ∷ ("erase ranges are a sector" holds_of "runs 20 511")
    ∷ ("erase ranges are a sector" fails_of "runs 20 512")
    ∷ ("erase ranges are a sector" holds_of "aside 20 511")
    ∷ ("erase ranges are a sector" fails_of "aside 20 512")
    ∷ ("a block" holds_of "runs D8 39")
    ∷ ("a block" fails_of "runs D8 40")
    ∷ ("or the array" holds_of "runs C7")
    -- Registers below 2^48, no permanent read lock, each permanent bit set in the protection register.
    ∷ ("Registers below 2^48" holds_of "protection FFFFFFFFFFFF")
    ∷ ("Registers below 2^48" fails_of "protection 1000000000000")
    ∷ ("Registers below 2^48" fails_of "protection 1000000000000, permanent 1000000000000")
    ∷ ("no permanent read lock" fails_of "protection FFFFFFFFFFFF, permanent 000200000000")
    ∷ ("no permanent read lock" fails_of "protection FFFFFFFFFFFF, permanent 800000000000")
    ∷ ("no permanent read lock" holds_of "protection FFFFFFFFFFFF, permanent 5555FFFFFFFF")
    ∷ ("each permanent bit set in the protection register" holds_of "protection 000100000001, permanent 000100000001")
    ∷ ("each permanent bit set in the protection register" fails_of "protection 000100000000, permanent 000100000001")
    ∷ ("each permanent bit set in the protection register" fails_of "protection 000000000001, permanent 000100000001")
    -- Suspended work is one sector or block erase or one page program.
    ∷ ("Suspended work is one sector erase" holds_of "aside 20 1")
    ∷ ("Suspended work is one block erase" holds_of "aside D8 1")
    ∷ ("Suspended work is one page program" holds_of "aside 02 1")
    ∷ ("Suspended work is not C7" fails_of "aside C7")
    ∷ ("Suspended work is not A5" fails_of "aside A5 1")
    ∷ ("Suspended work is not 85" fails_of "aside 85")
    ∷ ("Suspended work is not 01" fails_of "aside 01 3")
    ∷ ("Suspended work is not E8" fails_of "aside E8 1")
    -- If something runs beside it, they do not overlap and are one erase and one program.
    ∷ ("one erase and one program" holds_of "runs 20 1, aside 02 15")
    ∷ ("they do not overlap" fails_of "runs 20 1, aside 02 16")
    ∷ ("they do not overlap" fails_of "runs 20 1, aside 02 31")
    ∷ ("they do not overlap" holds_of "runs 20 1, aside 02 32")
    ∷ ("one erase and one program" holds_of "runs D8 7, aside 02 32")
    ∷ ("they do not overlap" fails_of "runs D8 7, aside 02 31")
    ∷ ("one erase and one program" holds_of "runs 02 15, aside 20 1")
    ∷ ("they do not overlap" fails_of "runs 02 16, aside 20 1")
    ∷ ("one erase and one program" holds_of "runs 02 32, aside D8 7")
    ∷ ("they do not overlap" fails_of "runs C7, aside 02 31")
    ∷ ("one erase and one program: not two erases" fails_of "runs 20 1, aside 20 2")
    ∷ ("one erase and one program: not two programs" fails_of "runs 02 1, aside 02 2")
    ∷ ("one erase and one program: A5 is a program" holds_of "runs A5 1, aside 20 1")
    ∷ ("one erase and one program: A5 is a program" fails_of "runs A5 1, aside 02 1")
    ∷ ("one erase and one program: 85 is neither" fails_of "runs 85, aside 20 1")
    ∷ ("one erase and one program: 01 is neither" fails_of "runs 01 3, aside 20 1")
    ∷ ("one erase and one program: E8 is neither" fails_of "runs E8 1, aside 02 1")
    -- A running or suspended range has no write lock.
    ∷ ("A running range has no write lock." fails_of "protection 000100000000, runs 20 1")
    ∷ ("A running range has no write lock." holds_of "protection AAAA00000000, runs 20 1")
    ∷ ("A running range has no write lock." holds_of "protection 5554FFFFFFFF, runs 20 1")
    ∷ ("A running range has no write lock." fails_of "protection 000000000001, runs C7")
    ∷ ("A running range has no write lock." holds_of "protection AAAA00000000, runs C7")
    ∷ ("A running range has no write lock." fails_of "protection 000000000001, runs D8 39")
    ∷ ("A running range has no write lock." fails_of "protection 000000000001, runs 02 256")
    ∷ ("A running range has no write lock." holds_of "protection 000000000001, runs 02 255")
    ∷ ("A suspended range has no write lock." fails_of "protection 000000000001, aside 02 256")
    ∷ ("A suspended range has no write lock." holds_of "protection 000000000001, aside 02 255")
    ∷ ("A suspended range has no write lock." fails_of "protection 000100000000, aside 20 1")
    ∷ ("the Security ID has no write lock" holds_of "protection 5555FFFFFFFF, runs A5 1")
    -- Running Security ID work has SEC 0; a running A5 of page 0 has FF in its first eight buffer bytes.
    ∷ ("Running Security ID work has SEC 0" fails_of "runs A5 1, flags 20")
    ∷ ("Running Security ID work has SEC 0" fails_of "runs 85, flags 20")
    ∷ ("Running Security ID work has SEC 0" holds_of "runs 85")
    ∷ ("other work may have SEC 1" holds_of "runs 02 1, flags 20")
    ∷ ("other work may have SEC 1" holds_of "runs 01 1, flags 20")
    ∷ ("a running A5 of page 0 has FF in its first eight buffer bytes" fails_of "runs A5 0, buffer 0")
    ∷ ("a running A5 of page 0 has FF in its first eight buffer bytes" fails_of "runs A5 0, buffer 7")
    ∷ ("a running A5 of page 0 has FF in its first eight buffer bytes" holds_of "runs A5 0, buffer 8")
    ∷ ("a running A5 of another page need not" holds_of "runs A5 1, buffer 0")
    -- The buffer is all FF when no program runs or is suspended.
    ∷ ("The buffer is all FF when no program runs or is suspended." fails_of "new, buffer 0")
    ∷ ("The buffer is all FF when no program runs or is suspended." fails_of "new, buffer 255")
    ∷ ("The buffer is all FF when no program runs or is suspended." fails_of "runs 20 1, buffer 8")
    ∷ ("The buffer is all FF when no program runs or is suspended." fails_of "runs C7, buffer 8")
    ∷ ("The buffer is all FF when no program runs or is suspended." fails_of "runs 85, buffer 8")
    ∷ ("The buffer is all FF when no program runs or is suspended." fails_of "runs E8 1, buffer 8")
    ∷ ("The buffer is all FF when no program runs or is suspended." fails_of "aside 20 1, buffer 8")
    ∷ ("a program runs" holds_of "runs 02 1, buffer 0")
    ∷ ("a program is suspended" holds_of "aside 02 1, buffer 0")
    ∷ ("a program is suspended" holds_of "runs 20 1, aside 02 1, buffer 0")
    -- nothing is asked of what 01 and E8 have in flight
    ∷ ("01 runs" holds_of "runs 01 2")
    ∷ ("E8 runs" holds_of "runs E8 281474976710655")
    ∷ ("E8 runs, with bits that no register has" holds_of "runs E8 281474976710656")
    ∷ []

-- ---- the statement

pub record RecordsHold : Type 0 where
  pub hold : Each (λ r. well_formed r.chip ≡ r.formed) records
  pub whole : length records ≡ 83
