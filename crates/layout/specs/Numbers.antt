-- The numbers of the record's layout that C and Rust have names for, in the order in which they are looked for; then an image file's length; then the station list's.
use Rattle.std.specs.Prelude.{ℕ, ◌+◌, Bool, true, false, List, [], ◌∷◌}
use Rattle.rules.specs.declared.Rest.{Rest}
use Rattle.rules.specs.declared.Work.TheVariants.{Nothing, EraseSector, EraseBlock, EraseArray, ProgramPage, ProgramSecurity, LockSecurity, WriteConfiguration, AddPermanent}
use Rattle.rules.specs.Fields.{with_sqi, with_wel, with_ioc, with_wpen, with_wpld, with_sec, with_enable, with_ba, with_flags, no_flags, flags_number}
use Rattle.rules.specs.Commands.{new_chip}
use Rattle.numbering.specs.Numbering.{kind_of}
use Rattle.record_code.specs.Layout.{record_size, place_of}
use Rattle.image.specs.Form.{file_size_lem}
use Rattle.stations.specs.Slots.{slot_size, slot_count, data_size}
use Rattle.stations.specs.Calls.{list_size}
use Rattle.stations.specs.Keeping.{list_start}

-- the flags' byte where a record has one flag set
abbrev pub flag_by : (Bool → Rest → Rest) → ℕ
flag_by set = flags_number (set true (with_flags no_flags new_chip.rest)).flags

-- the largest allowance: proofs/Stations has that it is taken and the next is not
abbrev pub polls_most : ℕ
polls_most = 65535

-- number and data, the mark, and at most all other slots: proofs/Stations has that no store makes more
abbrev pub writes_most : ℕ
writes_most = slot_count + 1

abbrev pub numbers : List ℕ
numbers =
    record_size
    ∷ place_of "page"
    ∷ place_of "protection"
    ∷ place_of "permanent"
    ∷ place_of "running number"
    ∷ place_of "suspended number"
    ∷ place_of "running kind"
    ∷ place_of "suspended kind"
    ∷ place_of "flags"
    ∷ place_of "burst"
    ∷ place_of "reserved"
    ∷ kind_of Nothing
    ∷ kind_of (EraseSector 0)
    ∷ kind_of (EraseBlock 0)
    ∷ kind_of EraseArray
    ∷ kind_of (ProgramPage 0)
    ∷ kind_of (ProgramSecurity 0)
    ∷ kind_of LockSecurity
    ∷ kind_of (WriteConfiguration false false)
    ∷ kind_of (AddPermanent 0)
    ∷ flag_by with_sqi
    ∷ flag_by with_wel
    ∷ flag_by with_ioc
    ∷ flag_by with_wpen
    ∷ flag_by with_wpld
    ∷ flag_by with_sec
    ∷ flag_by with_enable
    ∷ flag_by with_ba
    ∷ file_size_lem
    ∷ list_start
    ∷ list_size
    ∷ slot_count
    ∷ slot_size
    ∷ data_size
    ∷ polls_most
    ∷ writes_most
    ∷ []
