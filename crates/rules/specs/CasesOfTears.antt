-- 02, W-205: each sentence at cases on both sides of it, with k in the middle of a range, at its last byte and past its end. Proved in proofs/Tears.
use Rattle.std.specs.Prelude.{◌+◌, List, [], ◌∷◌}
use Rattle.rules.specs.Cases.{Section, old, ba, either, section, ◌on◌, ◌gives◌, ◌is◌, number, byte, place, secured, flags, protected, permanent, runs, aside, buffered, IOC, WPEN, SEC, BA, Holds}

unfoldable pub tears : List Section
tears =
    -- 00 is sent to 10FE, 10FF and, by wrap, 1000 to 1065
    section either "For a program, old AND (finished OR m): 00 over FF" "open, 06, 02 00 10 FE 00*104, 66" (
    ("Worked: 00 over FF with m of F0 leaves F0." on "99 torn 100 F0" gives (number is 0 ∷ place 0x0FFF is 0xFF ∷ place 0x1000 is 0x00 ∷ place 0x1063 is 0x00 ∷ place 0x1064 is 0xF0 ∷ place 0x1065 is 0xFF ∷ place 0x10FF is 0xFF ∷ []))
    ∷ ("The first k bytes are finished: none" on "99 torn 0 F0" gives (place 0x1000 is 0xF0 ∷ place 0x1001 is 0xFF ∷ []))
    ∷ ("If the range has a byte k: its last" on "99 torn 255 F0" gives (place 0x10FE is 0x00 ∷ place 0x10FF is 0xF0 ∷ place 0x1100 is 0xFF ∷ []))
    ∷ ("If the range has a byte k: it has none" on "99 torn 256 F0" gives (number is 0 ∷ place 0x10FF is 0x00 ∷ place 0x1100 is 0xFF ∷ []))
    ∷ ("far beyond" on "99 torn 18446744073709551615 F0" gives (number is 0 ∷ place 0x1000 is 0x00 ∷ place 0x10FF is 0x00 ∷ place 0x1100 is 0xFF ∷ []))
    ∷ ("m FF: byte k is unchanged" on "99 torn 100 FF" gives (place 0x1063 is 0x00 ∷ place 0x1064 is 0xFF ∷ []))
    ∷ ("m 00: byte k is finished" on "99 torn 100 00" gives (place 0x1064 is 0x00 ∷ place 0x1065 is 0xFF ∷ []))
    ∷ ("k 0 and m 00: the first byte is finished" on "99" gives (place 0x1000 is 0x00 ∷ place 0x1001 is 0xFF ∷ []))
    ∷ ("the work is dropped" on "99 torn 100 F0" gives (runs is 0x00 ∷ aside is 0x00 ∷ buffered 0 is 0xFF ∷ protected is 0 ∷ []))
    ∷ ("the work is dropped" on "99 torn 100 F0, completion" gives (number is 12 ∷ place 0x1064 is 0xF0 ∷ place 0x1065 is 0xFF ∷ []))
    ∷ ("a power cut carries m too" on "cut 100 F0" gives (number is 0 ∷ place 0x0FFF is 0xFF ∷ place 0x1063 is 0x00 ∷ place 0x1064 is 0xF0 ∷ place 0x1065 is 0xFF ∷ []))
    ∷ ("a power cut carries m too" on "cut 0 F0" gives (place 0x1000 is 0xF0 ∷ place 0x1001 is 0xFF ∷ []))
    ∷ ("a power cut carries m too" on "cut 255 F0" gives (place 0x10FE is 0x00 ∷ place 0x10FF is 0xF0 ∷ place 0x1100 is 0xFF ∷ []))
    ∷ ("a power cut carries m too" on "cut 256 F0" gives (place 0x10FF is 0x00 ∷ place 0x1100 is 0xFF ∷ []))
    ∷ [])
    -- finished is 14 where 55 is sent
    ∷ section either "For a program, old AND (finished OR m): 55 over 3C" "open, 06, 02 00 10 63 3C*3, completion, 06, 02 00 10 63 55*2, 66" (
    ("m 0F" on "99 torn 100 0F" gives (place 0x1063 is 0x14 ∷ place 0x1064 is 0x1C ∷ place 0x1065 is 0x3C ∷ []))
    ∷ ("m A1" on "99 torn 100 A1" gives (place 0x1063 is 0x14 ∷ place 0x1064 is 0x34 ∷ place 0x1065 is 0x3C ∷ []))
    ∷ ("m FF" on "99 torn 100 FF" gives (place 0x1064 is 0x3C ∷ []))
    ∷ ("m 00" on "99 torn 100 00" gives (place 0x1064 is 0x14 ∷ []))
    ∷ ("a byte that was not sent" on "99 torn 101 00" gives (place 0x1063 is 0x14 ∷ place 0x1064 is 0x14 ∷ place 0x1065 is 0x3C ∷ []))
    ∷ ("at a power cut" on "cut 100 0F" gives (place 0x1063 is 0x14 ∷ place 0x1064 is 0x1C ∷ place 0x1065 is 0x3C ∷ []))
    ∷ [])
    ∷ section either "And for an erase, old OR m" "open, 06, 02 00 0F FF 0F, completion, 06, 02 00 10 00 0F*102, completion, 06, 02 00 1F FE 0F 0F, completion, 06, 02 00 20 00 0F, completion, 06, 20 00 10 00, 66" (
    ("0F with m of 30 gives 3F" on "99 torn 100 30" gives (number is 0 ∷ place 0x0FFF is 0x0F ∷ place 0x1000 is 0xFF ∷ place 0x1063 is 0xFF ∷ place 0x1064 is 0x3F ∷ place 0x1065 is 0x0F ∷ place 0x1FFF is 0x0F ∷ place 0x2000 is 0x0F ∷ []))
    ∷ ("The first k bytes are finished: none" on "99 torn 0 30" gives (place 0x1000 is 0x3F ∷ place 0x1001 is 0x0F ∷ []))
    ∷ ("If the range has a byte k: its last" on "99 torn 4095 30" gives (place 0x1FFE is 0xFF ∷ place 0x1FFF is 0x3F ∷ place 0x2000 is 0x0F ∷ []))
    ∷ ("If the range has a byte k: it has none" on "99 torn 4096 30" gives (place 0x1FFF is 0xFF ∷ place 0x2000 is 0x0F ∷ []))
    ∷ ("far beyond" on "99 torn 18446744073709551615 30" gives (place 0x1000 is 0xFF ∷ place 0x1FFF is 0xFF ∷ place 0x2000 is 0x0F ∷ []))
    ∷ ("m 00: byte k is unchanged" on "99 torn 100 00" gives (place 0x1063 is 0xFF ∷ place 0x1064 is 0x0F ∷ []))
    ∷ ("m FF: byte k is finished" on "99 torn 100 FF" gives (place 0x1064 is 0xFF ∷ place 0x1065 is 0x0F ∷ []))
    ∷ ("k 0 and m 00: unchanged" on "99" gives (place 0x1000 is 0x0F ∷ runs is 0x00 ∷ []))
    ∷ ("at a power cut" on "cut 100 30" gives (number is 0 ∷ place 0x1063 is 0xFF ∷ place 0x1064 is 0x3F ∷ place 0x1065 is 0x0F ∷ []))
    ∷ ("at a power cut" on "cut 4095 30" gives (place 0x1FFE is 0xFF ∷ place 0x1FFF is 0x3F ∷ place 0x2000 is 0x0F ∷ []))
    ∷ ("at a power cut" on "cut 4096 30" gives (place 0x1FFF is 0xFF ∷ place 0x2000 is 0x0F ∷ []))
    ∷ [])
    ∷ section either "D8 and C7" "open, 06, 02 00 5F FE 0F 0F, completion, 06, 02 00 60 00 0F 0F, completion, 06, 02 1F FF FE 0F 0F, completion, 06" (
    ("D8, its last byte" on "D8 00 40 00, 66, 99 torn 8191 30" gives (place 0x5FFE is 0xFF ∷ place 0x5FFF is 0x3F ∷ place 0x6000 is 0x0F ∷ []))
    ∷ ("D8, past its end" on "D8 00 40 00, 66, 99 torn 8192 30" gives (place 0x5FFF is 0xFF ∷ place 0x6000 is 0x0F ∷ []))
    ∷ ("C7, in the middle" on "C7, 66, 99 torn 24576 30" gives (place 0x5FFF is 0xFF ∷ place 0x6000 is 0x3F ∷ place 0x6001 is 0x0F ∷ []))
    ∷ ("C7, its last byte" on "C7, 66, 99 torn 2097151 30" gives (place 0x6001 is 0xFF ∷ place 0x1FFFFE is 0xFF ∷ place 0x1FFFFF is 0x3F ∷ []))
    ∷ ("C7, past its end" on "C7, 66, 99 torn 2097152 30" gives (place 0x1FFFFF is 0xFF ∷ []))
    ∷ ("D8 at a power cut" on "D8 00 40 00, cut 8191 30" gives (place 0x5FFE is 0xFF ∷ place 0x5FFF is 0x3F ∷ place 0x6000 is 0x0F ∷ []))
    ∷ ("C7 at a power cut" on "C7, cut 2097151 30" gives (place 0x1FFFFE is 0xFF ∷ place 0x1FFFFF is 0x3F ∷ []))
    ∷ [])
    ∷ section either "32 and A5" "open, 06, 01 00 02, completion, 06" (
    ("32 is torn as 02" on "32 00 10 63 00*3, 66, 99 torn 100 F0" gives (place 0x1063 is 0x00 ∷ place 0x1064 is 0xF0 ∷ place 0x1065 is 0xFF ∷ []))
    ∷ ("32 at a power cut" on "32 00 10 63 00*3, cut 100 F0" gives (place 0x1063 is 0x00 ∷ place 0x1064 is 0xF0 ∷ place 0x1065 is 0xFF ∷ []))
    ∷ ("A5: the Security ID may change in a frame" on "A5 00 08 00*94, 66, 99 torn 100 F0" gives (number is 0 ∷ secured 7 is 0xFF ∷ secured 8 is 0x00 ∷ secured 99 is 0x00 ∷ secured 100 is 0xF0 ∷ secured 101 is 0xFF ∷ place 100 is 0xFF ∷ []))
    ∷ ("A5: its last byte" on "A5 00 FE 00 00, 66, 99 torn 255 F0" gives (secured 0xFE is 0x00 ∷ secured 0xFF is 0xF0 ∷ secured 0x100 is 0xFF ∷ []))
    ∷ ("A5: past its end" on "A5 00 FE 00 00, 66, 99 torn 256 F0" gives (secured 0xFF is 0x00 ∷ secured 0x100 is 0xFF ∷ []))
    ∷ ("A5: the first eight places stay" on "A5 00 08 00, 66, 99 torn 7 00" gives (secured 0 is 0xFF ∷ secured 7 is 0xFF ∷ secured 8 is 0xFF ∷ []))
    ∷ ("A5 at a power cut" on "A5 00 08 00 00, cut 8 F0" gives (secured 7 is 0xFF ∷ secured 8 is 0xF0 ∷ secured 9 is 0xFF ∷ []))
    ∷ [])
    ∷ section old "At such a reset 85, 01 and E8 act fully if k is 1 or more, else not, before the registers are reset" "open, 06" (
    ("85, k 1" on "85, 66, 99 torn 1 00" gives (number is 0 ∷ flags is SEC ∷ runs is 0x00 ∷ place 0 is 0xFF ∷ secured 0 is 0xFF ∷ secured 1 is 0xFF ∷ []))
    ∷ ("85, k 0" on "85, 66, 99 torn 0 00" gives (flags is 0 ∷ []))
    ∷ ("85, far beyond" on "85, 66, 99 torn 18446744073709551615 FF" gives (flags is SEC ∷ []))
    ∷ ("01, k 1: WPEN stays, IOC is reset" on "01 00 82, 66, 99 torn 1 FF" gives (flags is WPEN ∷ []))
    ∷ ("01, k 0" on "01 00 82, 66, 99 torn 0 FF" gives (flags is 0 ∷ []))
    ∷ ("01, k 1: WPEN to 0" on "01 00 82, completion, 06, 01 00 02, 66, 99 torn 1 00" gives (flags is 0 ∷ []))
    ∷ ("01, k 0: WPEN as it was" on "01 00 82, completion, 06, 01 00 02, 66, 99 torn 0 00" gives (flags is WPEN ∷ []))
    ∷ ("E8, k 1: its bits stay in both registers" on "E8 00 00 00 00 00 03, 66, 99 torn 1 00" gives (permanent is 3 ∷ protected is 3 ∷ flags is 0 ∷ []))
    ∷ ("E8, k 0" on "E8 00 00 00 00 00 03, 66, 99 torn 0 FF" gives (permanent is 0 ∷ protected is 0 ∷ []))
    ∷ [])
    ∷ section ba "The same of BA" "open, 06" (
    ("01, k 1: WPEN stays, IOC is reset" on "01 00 80, 66, 99 torn 1 00" gives (flags is (IOC + WPEN + BA) ∷ []))
    ∷ ("01, k 0" on "01 00 80, 66, 99 torn 0 00" gives (flags is (IOC + BA) ∷ []))
    ∷ ("85, k 1" on "85, 66, 99 torn 1 00" gives (flags is (IOC + SEC + BA) ∷ []))
    ∷ ("E8, k 1" on "E8 00 00 00 00 00 03, 66, 99 torn 1 00" gives (permanent is 3 ∷ protected is 3 ∷ flags is (IOC + BA) ∷ []))
    ∷ [])
    ∷ section either "Used only by an accepted 99 while busy" "open, 06, 02 00 10 00 00 00" (
    ("99 refused with 6" on "99 torn 256 00" gives (number is 6 ∷ place 0x1000 is 0xFF ∷ runs is 0x02 ∷ []))
    ∷ ("99 refused with 4" on "66, 99 00 torn 256 00" gives (number is 4 ∷ place 0x1000 is 0xFF ∷ runs is 0x02 ∷ []))
    ∷ ("66" on "66 torn 256 00" gives (number is 0 ∷ place 0x1000 is 0xFF ∷ runs is 0x02 ∷ []))
    ∷ ("05" on "05 torn 256 00" gives (number is 0 ∷ byte 0 is 0x83 ∷ place 0x1000 is 0xFF ∷ runs is 0x02 ∷ []))
    ∷ ("a frame refused with 5" on "03 00 10 00 torn 256 00" gives (number is 5 ∷ place 0x1000 is 0xFF ∷ runs is 0x02 ∷ []))
    ∷ ("B0" on "B0 torn 256 00" gives (number is 0 ∷ place 0x1000 is 0xFF ∷ runs is 0x00 ∷ aside is 0x02 ∷ []))
    ∷ ("99 with only suspended work" on "B0, 66, 99 torn 256 00" gives (number is 0 ∷ place 0x1000 is 0xFF ∷ place 0x1001 is 0xFF ∷ aside is 0x00 ∷ buffered 0 is 0xFF ∷ []))
    ∷ ("99 idle" on "completion, 06, 20 00 10 00, completion, 66, 99 torn 1 00" gives (number is 0 ∷ place 0 is 0xFF ∷ place 1 is 0xFF ∷ place 0x1000 is 0xFF ∷ place 0x1001 is 0xFF ∷ secured 1 is 0xFF ∷ []))
    ∷ ("a long command that starts" on "completion, 06, 02 00 20 00 00 torn 1 00" gives (number is 0 ∷ place 0x2000 is 0xFF ∷ runs is 0x02 ∷ []))
    ∷ ("a long command that starts" on "completion, 06, 85 torn 1 00, 66, 99, 05" gives (byte 0 is 0x00 ∷ []))
    ∷ ("a power cut with nothing running" on "completion, 06, 20 00 10 00, completion, cut 1 00" gives (number is 0 ∷ place 0 is 0xFF ∷ place 1 is 0xFF ∷ place 0x1001 is 0xFF ∷ []))
    ∷ [])
    ∷ section either "Suspended work beside it is dropped, its target unchanged" "open, 06, 02 00 10 63 0F*3, completion, 06" (
    ("an erase" on "20 00 10 00, B0, 02 00 20 63 00*3, 66, 99 torn 100 F0" gives (number is 0 ∷ place 0x1063 is 0x0F ∷ place 0x1064 is 0x0F ∷ place 0x2063 is 0x00 ∷ place 0x2064 is 0xF0 ∷ place 0x2065 is 0xFF ∷ runs is 0x00 ∷ aside is 0x00 ∷ []))
    ∷ ("a program" on "02 00 20 63 00*3, B0, 20 00 10 00, 66, 99 torn 100 30" gives (number is 0 ∷ place 0x1063 is 0xFF ∷ place 0x1064 is 0x3F ∷ place 0x1065 is 0x0F ∷ place 0x2063 is 0xFF ∷ place 0x2064 is 0xFF ∷ runs is 0x00 ∷ aside is 0x00 ∷ buffered 0 is 0xFF ∷ []))
    ∷ ("an erase, at a power cut" on "20 00 10 00, B0, 02 00 20 63 00*3, cut 100 F0" gives (place 0x1063 is 0x0F ∷ place 0x1064 is 0x0F ∷ place 0x2064 is 0xF0 ∷ place 0x2065 is 0xFF ∷ []))
    ∷ ("a program, at a power cut" on "02 00 20 63 00*3, B0, 20 00 10 00, cut 100 30" gives (place 0x1064 is 0x3F ∷ place 0x1065 is 0x0F ∷ place 0x2064 is 0xFF ∷ []))
    ∷ [])
    ∷ []

-- with how many values the cases of each section look at
abbrev pub TearsHold : Type 0
TearsHold = Holds tears (44 ∷ 14 ∷ 33 ∷ 17 ∷ 24 ∷ 17 ∷ 6 ∷ 39 ∷ 24 ∷ [])
