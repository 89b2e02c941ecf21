-- 02, W-201, Burst reads: its sentences, each on both sides, under one statement. Proved in proofs/Sentences.
use Rattle.std.specs.Prelude.{List, [], ◌∷◌, ◌++◌}
use Rattle.rules.specs.Cases.{Section, old, section, ◌on◌, ◌gives◌, ◌is◌, number, byte, mark, flags, runs, aside, burst, replies, marked, WEL, Holds}

unfoldable pub bursts : List Section
bursts =
    section old "C0 takes one data byte: 00 to 03 set a burst of 8, 16, 32 or 64 bytes, in both protocols." "" (
    ("00 sets a burst of 8" on "C0 03, C0 00" gives (number is 0 ∷ burst is 8 ∷ []))
    ∷ ("01: 16" on "C0 01" gives (number is 0 ∷ burst is 16 ∷ []))
    ∷ ("02: 32" on "C0 02" gives (number is 0 ∷ burst is 32 ∷ []))
    ∷ ("03: 64" on "C0 03" gives (number is 0 ∷ burst is 64 ∷ []))
    ∷ ("in both protocols" on "38, C0 03" gives (number is 0 ∷ burst is 64 ∷ []))
    ∷ ("one data byte" on "C0" gives (number is 4 ∷ burst is 8 ∷ []))
    ∷ ("one data byte" on "C0 03 03" gives (number is 4 ∷ burst is 8 ∷ []))
    ∷ ("it replies nothing" on "C0 03" gives (byte 0 is 0xFF ∷ byte 15 is 0xFF ∷ mark 0 is 0 ∷ mark 15 is 0 ∷ []))
    ∷ ("it needs no WEL and leaves it" on "06, C0 02" gives (burst is 32 ∷ flags is WEL ∷ []))
    ∷ [])
    ∷ section old "13 for a C0 byte above 03, tested after 7, leaving what 3 to 11 leave" "C0 02, 06" (
    ("03 is not above 03" on "C0 03" gives (number is 0 ∷ burst is 64 ∷ []))
    ∷ ("04 is: the burst and WEL stay" on "C0 04" gives (number is 13 ∷ burst is 32 ∷ flags is WEL ∷ []))
    ∷ ("so is FF" on "C0 FF" gives (number is 13 ∷ burst is 32 ∷ flags is WEL ∷ []))
    ∷ ("in SQI too" on "38, C0 04" gives (number is 13 ∷ burst is 32 ∷ []))
    ∷ ("the reply FF, the marks 0" on "C0 04" gives (byte 0 is 0xFF ∷ byte 15 is 0xFF ∷ mark 0 is 0 ∷ mark 15 is 0 ∷ []))
    ∷ ("the reset enable is used up" on "66, C0 04, 99" gives (number is 6 ∷ []))
    ∷ ("after 4: the length is wrong" on "C0 04 04" gives (number is 4 ∷ []))
    ∷ ("after 5: BUSY" on "85, C0 04" gives (number is 5 ∷ []))
    ∷ ("after 5: BUSY no more" on "85, completion, C0 04" gives (number is 13 ∷ []))
    ∷ ("the byte of another frame is not looked at" on "03 04 00 00" gives (number is 0 ∷ []))
    ∷ [])
    ∷ section old "C0 while something runs, and while something is suspended" "open, 06, 20 00 10 00" (
    ("5 while BUSY" on "C0 03" gives (number is 5 ∷ burst is 8 ∷ []))
    ∷ ("done while something is suspended" on "B0, C0 03" gives (number is 0 ∷ burst is 64 ∷ flags is WEL ∷ runs is 0x00 ∷ aside is 0x20 ∷ []))
    ∷ ("and 13 then" on "B0, C0 04" gives (number is 13 ∷ burst is 8 ∷ []))
    ∷ [])
    ∷ section old "0C (SQI) and EC (SPI, IOC 1) have length 7" "06, 01 00 02, completion" (
    ("EC: length 7" on "EC 00 00 00 00 00 00" gives (number is 0 ∷ byte 0 is 0xFF ∷ mark 0 is 1 ∷ []))
    ∷ ("EC: length 7" on "EC 00 00 00 00 00" gives (number is 4 ∷ []))
    ∷ ("EC: length 7" on "EC 00 00 00 00 00 00 00" gives (number is 4 ∷ []))
    ∷ ("EC is in SPI" on "38, EC 00 00 00 00 00 00" gives (number is 3 ∷ []))
    ∷ ("EC needs IOC 1: 7 now covers EC too" on "cut 0, EC 00 00 00 00 00 00" gives (number is 7 ∷ byte 0 is 0xFF ∷ mark 0 is 0 ∷ []))
    ∷ ("0C: length 7" on "38, 0C 00 00 00 00 00 00" gives (number is 0 ∷ byte 0 is 0xFF ∷ mark 0 is 1 ∷ []))
    ∷ ("0C: length 7" on "38, 0C 00 00 00 00 00" gives (number is 4 ∷ []))
    ∷ ("0C: length 7" on "38, 0C 00 00 00 00 00 00 00" gives (number is 4 ∷ []))
    ∷ ("0C is in SQI" on "0C 00 00 00 00 00 00" gives (number is 3 ∷ []))
    ∷ ("0C needs no IOC" on "cut 0, 38, 0C 00 00 00 00 00 00" gives (number is 0 ∷ []))
    ∷ ("5 while BUSY" on "06, 85, EC 00 00 00 00 00 00" gives (number is 5 ∷ []))
    ∷ [])
    -- 3E and 3F hold 11 and 22; the first places of the groups of 64, 32, 16 and 8 that hold them 33, 44, 55 and 66
    ∷ section old "start at the address given and wrap within the naturally aligned group of that length" "open, 06, 02 00 00 3E 11 22, completion, 06, 02 00 00 00 33, completion, 06, 02 00 00 20 44, completion, 06, 02 00 00 30 55, completion, 06, 02 00 00 38 66, completion, 06, 01 00 02, completion" (
    ("64, from 3E: places 3E 3F 00 01" on "C0 03, EC 00 00 3E 00 00 00" gives replies "11 22 33 FF")
    ∷ ("32, from 3E: then place 20" on "C0 02, EC 00 00 3E 00 00 00" gives replies "11 22 44 FF")
    ∷ ("16, from 3E: then place 30, and so on to 3D" on "C0 01, EC 00 00 3E 00 00 00" gives replies "11 22 55 FF FF FF FF FF FF FF 66 FF FF FF FF FF")
    ∷ ("8, from 3E: then place 38, round and round" on "C0 00, EC 00 00 3E 00 00 00" gives replies "11 22 66 FF FF FF FF FF 11 22 66 FF FF FF FF FF")
    ∷ ("8, from the middle of a group" on "EC 00 00 3B 00 00 00" gives replies "FF FF FF 11 22 66 FF FF FF FF FF 11 22 66 FF FF")
    ∷ ("8, from the group's first place" on "EC 00 00 38 00 00 00" gives replies "66 FF FF FF FF FF 11 22 66 FF FF FF FF FF 11 22")
    ∷ ("the place after the group is not read" on "C0 02, EC 00 00 1F 00 00 00" gives replies "FF 33 FF")
    ∷ ("0C reads the same" on "C0 03, 38, 0C 00 00 3E 00 00 00" gives replies "11 22 33 FF")
    ∷ ("the three bytes after the address are ignored" on "C0 03, EC 00 00 3E A5 5A FF" gives replies "11 22 33 FF")
    ∷ ("the address counts modulo 200000" on "C0 03, EC 20 00 3E 00 00 00" gives replies "11 22 33 FF")
    ∷ ("the array's last group wraps in itself" on "06, 02 1F FF C0 77, completion, C0 03, EC FF FF FF 00 00 00" gives replies "FF 77 FF")
    ∷ ("03 goes on into the next group" on "C0 00, 03 00 00 37" gives replies "FF 66 FF FF FF FF FF 11 22 FF FF FF")
    ∷ [])
    ∷ section old "Power-up and reset set 8" "C0 03" (
    ("reset sets 8" on "66, 99" gives (number is 0 ∷ burst is 8 ∷ []))
    ∷ ("a reset that is refused does not" on "99" gives (number is 6 ∷ burst is 64 ∷ []))
    ∷ ("power-up sets 8" on "cut 0" gives (number is 0 ∷ burst is 8 ∷ []))
    ∷ ("38 leaves it" on "38" gives (burst is 64 ∷ []))
    ∷ ("FF leaves it" on "38, FF" gives (burst is 64 ∷ []))
    ∷ ("06 and 04 leave it" on "06, 04" gives (burst is 64 ∷ []))
    ∷ ("a completion leaves it" on "06, 85, completion" gives (burst is 64 ∷ []))
    ∷ ("01 leaves it" on "06, 01 FF FF, completion" gives (burst is 64 ∷ []))
    ∷ ("a suspension and its end leave it" on "open, 06, 20 00 10 00, B0, 30" gives (burst is 64 ∷ runs is 0x20 ∷ []))
    ∷ ("reads leave it" on "03 00 00 00" gives (burst is 64 ∷ []))
    ∷ [])
    ∷ section old "Locks and suspended ranges read as before." "open, 06, 02 00 1F FF 11, completion, 06, 02 00 20 00 22, completion, 06, 01 00 02, completion, C0 03, 06" (
    ("in a read-locked block: 00, mark 1" on "42 00 02 00 00 00 00, EC 00 1F FF 00 00 00" gives (replies "00 00 00" ++ marked "01 01 01"))
    ∷ ("beside it: the stored byte, mark 1" on "42 00 02 00 00 00 00, EC 00 20 00 00 00 00" gives (replies "22 FF FF" ++ marked "01 01 01"))
    ∷ ("in a suspended sector: 00, mark 0" on "20 00 10 00, B0, EC 00 1F FF 00 00 00" gives (replies "00 00 00" ++ marked "00 00 00"))
    ∷ ("beside it: the stored byte, mark 1" on "20 00 10 00, B0, EC 00 20 00 00 00 00" gives (replies "22 FF FF" ++ marked "01 01 01"))
    ∷ ("the read lock comes first" on "42 00 02 00 00 00 00, 06, 20 00 10 00, B0, EC 00 1F FF 00 00 00" gives (replies "00 00 00" ++ marked "01 01 01"))
    ∷ ("in a suspended page: 00, mark 0" on "02 00 20 00 00, B0, EC 00 20 3F 00 00 00" gives (replies "00 00 00" ++ marked "00 00 00"))
    ∷ [])
    ∷ []

-- with how many values the cases of each section look at
abbrev pub BurstsHold : Type 0
BurstsHold = Holds bursts (20 ∷ 19 ∷ 9 ∷ 17 ∷ 102 ∷ 14 ∷ 36 ∷ [])
