-- 01, Both sides of each edge: the cases marked *, a section for each starred line, under one statement. Each says which part it starts from; where IOC tells the
-- parts apart, BA's twin stands beside it. Proved in proofs/Sentences.
use Rattle.std.specs.Prelude.{List, [], ◌∷◌}
use Rattle.rules.specs.Cases.{Section, old, ba, either, section, ◌on◌, ◌gives◌, ◌is◌, number, byte, place, from, to, replies, marked, Holds}

unfoldable pub starred : List Section
starred =
    section old "05 gives 00; after 06 it gives 02; 35 gives 08." "" (
    ("05 gives 00" on "05" gives (byte 0 is 0x00 ∷ []))
    ∷ ("after 06 it gives 02" on "06, 05" gives (byte 0 is 0x02 ∷ []))
    ∷ ("35 gives 08" on "35" gives (byte 0 is 0x08 ∷ []))
    ∷ [])
    ∷ section ba "The same of BA: 35 gives 0A (02, W-204)." "" (
    ("05 gives 00" on "05" gives (byte 0 is 0x00 ∷ []))
    ∷ ("after 06 it gives 02" on "06, 05" gives (byte 0 is 0x02 ∷ []))
    ∷ ("35 gives 0A" on "35" gives (byte 0 is 0x0A ∷ []))
    ∷ [])
    ∷ section either "72 gives 55 55 FF FF FF FF; open, six 00." "" (
    ("72 gives 55 55 FF FF FF FF" on "72" gives replies "55 55 FF FF FF FF")
    ∷ ("open, six 00" on "open, 72" gives replies "00 00 00 00 00 00")
    ∷ [])
    ∷ section either "06, then 02 00 00 00 00: refused 11, WEL still 1." "" (
    ("refused 11" on "06, 02 00 00 00 00" gives (number is 11 ∷ []))
    ∷ ("WEL still 1" on "06, 02 00 00 00 00, 05" gives (byte 0 is 0x02 ∷ []))
    ∷ [])
    ∷ section either "Open, 06, 02 00 01 FE 11 22 33, completion: 1FE is 11, 1FF is 22, 100 is 33, 200 stays FF. Again with 0F at 100: 03." "" (
    ("1FE is 11, 1FF is 22, 100 is 33, 200 stays FF" on "open, 06, 02 00 01 FE 11 22 33, completion"
    gives (place 0x1FE is 0x11 ∷ place 0x1FF is 0x22 ∷ place 0x100 is 0x33 ∷ place 0x200 is 0xFF ∷ []))
    ∷ ("again with 0F at 100: 03" on "open, 06, 02 00 01 FE 11 22 33, completion, 06, 02 00 01 00 0F, completion" gives (place 0x100 is 0x03 ∷ []))
    ∷ [])
    -- beside the range, what the machine shows of it: once suspended, the marks on both sides of each end
    ∷ section either "D8 range: 007FFF gives 006000 to 007FFF; 008000 gives 008000 to 00FFFF; 1F7FFF gives 1F0000 to 1F7FFF; 1F8000 gives 1F8000 to 1F9FFF." "open, 06" (
    ("007FFF gives 006000 to 007FFF" on "D8 00 7F FF" gives (from is 0x006000 ∷ to is 0x007FFF ∷ []))
    ∷ ("007FFF gives 006000 to 007FFF" on "D8 00 7F FF, B0, 03 00 5F FF" gives marked "01 00")
    ∷ ("007FFF gives 006000 to 007FFF" on "D8 00 7F FF, B0, 03 00 7F FF" gives marked "00 01")
    ∷ ("008000 gives 008000 to 00FFFF" on "D8 00 80 00" gives (from is 0x008000 ∷ to is 0x00FFFF ∷ []))
    ∷ ("008000 gives 008000 to 00FFFF" on "D8 00 80 00, B0, 03 00 7F FF" gives marked "01 00")
    ∷ ("008000 gives 008000 to 00FFFF" on "D8 00 80 00, B0, 03 00 FF FF" gives marked "00 01")
    ∷ ("1F7FFF gives 1F0000 to 1F7FFF" on "D8 1F 7F FF" gives (from is 0x1F0000 ∷ to is 0x1F7FFF ∷ []))
    ∷ ("1F7FFF gives 1F0000 to 1F7FFF" on "D8 1F 7F FF, B0, 03 1E FF FF" gives marked "01 00")
    ∷ ("1F7FFF gives 1F0000 to 1F7FFF" on "D8 1F 7F FF, B0, 03 1F 7F FF" gives marked "00 01")
    ∷ ("1F8000 gives 1F8000 to 1F9FFF" on "D8 1F 80 00" gives (from is 0x1F8000 ∷ to is 0x1F9FFF ∷ []))
    ∷ ("1F8000 gives 1F8000 to 1F9FFF" on "D8 1F 80 00, B0, 03 1F 7F FF" gives marked "01 00")
    ∷ ("1F8000 gives 1F8000 to 1F9FFF" on "D8 1F 80 00, B0, 03 1F 9F FF" gives marked "00 01")
    ∷ [])
    ∷ section either "Open, 06, 20 00 10 00: status 83; B0: status 06. Place 000FFF has mark 1, 001000 mark 0." "open, 06, 20 00 10 00" (
    ("status 83" on "05" gives (byte 0 is 0x83 ∷ []))
    ∷ ("B0: status 06" on "B0, 05" gives (byte 0 is 0x06 ∷ []))
    ∷ ("place 000FFF has mark 1, 001000 mark 0" on "B0, 03 00 0F FF" gives marked "01 00")
    ∷ [])
    ∷ section either "06, 42 00 02 00 00 00 00: place 001FFF reads 00, 002000 reads FF." "" (
    ("place 001FFF reads 00, 002000 reads FF" on "06, 42 00 02 00 00 00 00, 03 00 1F FF" gives replies "00 FF")
    ∷ [])
    ∷ section either "Only bit 0 set, 06, C7: refused 11." "06, 42 00 00 00 00 00 01" (
    ("only bit 0 set" on "72" gives replies "00 00 00 00 00 01")
    ∷ ("06, C7: refused 11" on "06, C7" gives (number is 11 ∷ []))
    ∷ [])
    ∷ section either "Each alone after 06 on a new chip: A5 00 08 AA: done; A5 00 07 AA: 10; A5 00 FF AA BB: 10." "06" (
    ("A5 00 08 AA: done" on "A5 00 08 AA" gives (number is 0 ∷ []))
    ∷ ("A5 00 07 AA: 10" on "A5 00 07 AA" gives (number is 10 ∷ []))
    ∷ ("A5 00 FF AA BB: 10" on "A5 00 FF AA BB" gives (number is 10 ∷ []))
    ∷ [])
    ∷ section either "99 alone: 6. 66, 00, 99: 6." "" (
    ("99 alone: 6" on "99" gives (number is 6 ∷ []))
    ∷ ("66, 00, 99: 6" on "66, 00, 99" gives (number is 6 ∷ []))
    ∷ [])
    ∷ []

-- the ten lines and the twin, with all that each of them says
abbrev pub StarredHold : Type 0
StarredHold = Holds starred (3 ∷ 3 ∷ 12 ∷ 2 ∷ 5 ∷ 24 ∷ 4 ∷ 2 ∷ 7 ∷ 3 ∷ 2 ∷ [])
