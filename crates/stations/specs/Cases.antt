-- Worked cases of W-206 on both sides of its edges, each an equation between what the definitions give and what the paper's words give, under one statement. Proved in proofs/Cases.
use Rattle.std.specs.Prelude.{ℕ, ◌≡◌, true, false, List, [], ◌∷◌, ◌++◌, eqb, ltb, length, replicate}
use Prim.Native.String.{String}
use Rattle.rules.specs.declared.Rest.{Rest}
use Rattle.rules.specs.declared.Work.TheVariants.{ProgramPage, EraseSector}
use Rattle.rules.specs.Words.{Each, num, Lent, written}
use Rattle.rules.specs.Blocks.{array_size_lem, security_size_lem}
use Rattle.rules.specs.Fields.{chip_of, with_running, with_suspended, with_sqi, with_protection}
use Rattle.rules.specs.Programs.{blank}
use Rattle.rules.specs.Commands.{new_old_chip}
use Rattle.rules.specs.Numbers.{State}
use Rattle.stations.specs.declared.StoreRecord.{StoreRecord}
use Rattle.stations.specs.Slots.{Shown, shown_in, shown_from, all_below, some_below, first_from, those_from, empty, live, dead, station, live_of, passed_over_lem, bytes_of}
use Rattle.stations.specs.Plans.{record_frame, mark_frame, clearings}
use Rattle.stations.specs.Calls.{ends, played, polling, store_right, lookup_right}
use Rattle.stations.specs.Promises.{Desk, desk_of, state_at, Came, came_of, stored, looked_up}
use Rattle.stations.specs.Worked.{slot_with, cleared_with, data28}
use Rattle.stations.specs.Given.{in_time, completed, polls_from, Account, writes_account}

-- a sentence, what the definitions give, and what they must give
pub record Case : Type 0 where
  pub sentence : String
  pub gives : List ℕ
  pub must : List ℕ

abbrev pub case : String → List ℕ → List ℕ → Case
case s g m = record { sentence = s; gives = g; must = m }

-- ---- what the cases look at

-- whether slot i is empty, live, dead
abbrev pub classes : Shown → ℕ → List ℕ
classes v i = num (empty v i) ∷ num (live v i) ∷ num (dead v i) ∷ []

-- of slot 0 of a list that begins with these bytes
abbrev pub class_of : List ℕ → List ℕ
class_of bytes = classes (shown_from bytes) 0

-- frames, the length of each in front of it
abbrev pub frames_in : List (List ℕ) → List ℕ
frames_in [] = []
frames_in (f ∷ fs) = length f ∷ f ++ frames_in fs

abbrev pub sized : ℕ → Lent
sized n = written n (λ i. 0)

-- whether a store is right with a reply, marks, data and an allowance of these; a lookup with a reply, marks and a buffer
abbrev pub store_with : ℕ → ℕ → ℕ → ℕ → List ℕ
store_with reply marks bytes allowance = num (store_right (sized reply) (sized marks) (replicate bytes 0) allowance) ∷ []

abbrev pub lookup_with : ℕ → ℕ → ℕ → List ℕ
lookup_with reply marks buffer = num (lookup_right (sized reply) (sized marks) (replicate buffer 0)) ∷ []

-- whether a write with this allowance and entry is completed, and its polls
abbrev pub waited : ℕ → ℕ → List ℕ
waited a e = num (in_time a e) ∷ polls_from a (e ∷ []) 0 1 ∷ []

-- of c writes from entry j on with an allowance of 3: how many are completed, and their polls
abbrev pub account : List ℕ → ℕ → ℕ → List ℕ
account list j c = completed 3 list j c ∷ polls_from 3 list j c ∷ []

abbrev pub told : Account → List ℕ
told x = x.number ∷ x.polls ∷ x.writes ∷ []

-- a chip with nothing locked
abbrev pub bare : Rest
bare = with_protection 0 new_old_chip.rest

-- a chip that runs a page program
abbrev pub busy_state : State
busy_state = record { chip = chip_of blank (with_running (ProgramPage 0x100) bare); array = written array_size_lem (λ i. 0xFF); security = written security_size_lem (λ i. 0xFF) }

-- polls there, 10 of them before: number and polls, and whether it still runs
abbrev pub polled : ℕ → ℕ → List ℕ
polled a e = let x = played busy_state (polling a 0 e 10 (ends 0)) in x.number ∷ x.polls ∷ []

-- a record, and four slices lent with it
abbrev pub one_record : StoreRecord
one_record = record { chip = new_old_chip; number = 5; polls = 6 }

abbrev pub one_desk : Desk
one_desk = desk_of (0xA1 ∷ []) (0xB1 ∷ []) (0xC1 ∷ []) (0xD1 ∷ [])

abbrev pub memories : State → List ℕ
memories s = s.array.size ∷ s.array.byte 0 ∷ s.security.size ∷ s.security.byte 0 ∷ []

-- a chip in SQI, which refuses the read with 3
abbrev pub sqi_state : State
sqi_state = record { chip = chip_of blank (with_sqi true new_old_chip.rest); array = written array_size_lem (λ i. 0xFF); security = written security_size_lem (λ i. 0xFF) }

-- number and polls, and the first byte of the reply and of the marks, which were 5A and A5
abbrev pub came : Came → List ℕ
came c = c.ended.number ∷ c.ended.polls ∷ c.reply.byte 0 ∷ c.marks.byte 0 ∷ []

abbrev pub stored_there : ℕ → List ℕ
stored_there allowance = came (stored sqi_state (written 65536 (λ i. 0x5A)) (written 65536 (λ i. 0xA5)) 7 data28 allowance [])

abbrev pub looked_up_there : List ℕ → List ℕ
looked_up_there buffer = let x = looked_up sqi_state (written 65536 (λ i. 0x5A)) (written 65536 (λ i. 0xA5)) 7 buffer in came x.came ++ x.buffer

-- ---- the cases

unfoldable pub cases : List Case
cases =
    case "a list that begins with these bytes and is FF behind them" ((shown_from (0x11 ∷ []) 0).byte ∷ (shown_from (0x11 ∷ []) 0).mark ∷ (shown_from (0x11 ∷ []) 1).byte ∷ (shown_from (0x11 ∷ []) 1).mark ∷ []) (0x11 ∷ 0x01 ∷ 0xFF ∷ 0x01 ∷ [])
    ∷ case "as the two buffers of a read hold it: the byte is of the reply, the mark of the marks" ((shown_in (0x11 ∷ 0x22 ∷ []) (0x01 ∷ 0x00 ∷ []) 0).byte ∷ (shown_in (0x11 ∷ 0x22 ∷ []) (0x01 ∷ 0x00 ∷ []) 0).mark ∷ []) (0x11 ∷ 0x01 ∷ [])
    ∷ case "behind their end" ((shown_in (0x11 ∷ []) (0x01 ∷ []) 1).byte ∷ (shown_in (0x11 ∷ []) (0x01 ∷ []) 1).mark ∷ []) (0x00 ∷ 0x00 ∷ [])
    ∷ case "a slot is empty if all FF" (class_of []) (1 ∷ 0 ∷ 0 ∷ [])
    ∷ case "its first byte is FE" (class_of (0xFE ∷ [])) (0 ∷ 0 ∷ 1 ∷ [])
    ∷ case "its last byte is FE" (class_of (replicate 31 0xFF ++ 0xFE ∷ [])) (0 ∷ 0 ∷ 1 ∷ [])
    ∷ case "the next slot's first byte is FE" (class_of (replicate 32 0xFF ++ 0xFE ∷ [])) (1 ∷ 0 ∷ 0 ∷ [])
    ∷ case "live if its mark is 53 54: all else FF" (class_of (0x53 ∷ 0x54 ∷ [])) (0 ∷ 1 ∷ 0 ∷ [])
    ∷ case "all else 00" (class_of (0x53 ∷ 0x54 ∷ replicate 30 0x00)) (0 ∷ 1 ∷ 0 ∷ [])
    ∷ case "dead otherwise: 53 00" (class_of (0x53 ∷ 0x00 ∷ [])) (0 ∷ 0 ∷ 1 ∷ [])
    ∷ case "53 55" (class_of (0x53 ∷ 0x55 ∷ [])) (0 ∷ 0 ∷ 1 ∷ [])
    ∷ case "53 FF" (class_of (0x53 ∷ [])) (0 ∷ 0 ∷ 1 ∷ [])
    ∷ case "00 54" (class_of (0x00 ∷ 0x54 ∷ [])) (0 ∷ 0 ∷ 1 ∷ [])
    ∷ case "52 54" (class_of (0x52 ∷ 0x54 ∷ [])) (0 ∷ 0 ∷ 1 ∷ [])
    ∷ case "54 53" (class_of (0x54 ∷ 0x53 ∷ [])) (0 ∷ 0 ∷ 1 ∷ [])
    ∷ case "00 00, all else FF" (class_of (0x00 ∷ 0x00 ∷ [])) (0 ∷ 0 ∷ 1 ∷ [])
    ∷ case "number and data without a mark" (class_of (0xFF ∷ 0xFF ∷ 0x00 ∷ 0x07 ∷ [])) (0 ∷ 0 ∷ 1 ∷ [])
    ∷ case "slots of 32 bytes: slot 1 begins at 32" (classes (shown_from (replicate 32 0x00 ++ 0x53 ∷ 0x54 ∷ [])) 1) (0 ∷ 1 ∷ 0 ∷ [])
    ∷ case "and not at 31" (classes (shown_from (replicate 31 0x00 ++ 0x53 ∷ 0x54 ∷ [])) 1) (0 ∷ 0 ∷ 1 ∷ [])
    ∷ case "the station number, high byte first: 00 07, 07 00, FF FF, 01 02"
    (station (shown_from (slot_with 0x00 0x07 0)) 0 ∷ station (shown_from (slot_with 0x07 0x00 0)) 0 ∷ station (shown_from (slot_with 0xFF 0xFF 0)) 0 ∷ station (shown_from (slot_with 0x01 0x02 0)) 0 ∷ []) (7 ∷ 1792 ∷ 65535 ∷ 258 ∷ [])
    ∷ case "live of 7: of 00 07, of 00 08, of 07 07, and with its mark cleared"
    (num (live_of (shown_from (slot_with 0x00 0x07 0)) 7 0) ∷ num (live_of (shown_from (slot_with 0x00 0x08 0)) 7 0) ∷ num (live_of (shown_from (slot_with 0x07 0x07 0)) 7 0) ∷ num (live_of (shown_from (cleared_with 0x00 0x07 0)) 7 0) ∷ []) (1 ∷ 0 ∷ 0 ∷ 0 ∷ [])
    ∷ case "lookup passes over the second of two slots, and not the first" (let v = shown_from (slot_with 0 7 1 ++ slot_with 0 7 2) in num (passed_over_lem v 0) ∷ num (passed_over_lem v 1) ∷ []) (0 ∷ 1 ∷ [])
    ∷ case "over the third, with another number between" (let v = shown_from (slot_with 0 7 1 ++ slot_with 0 8 2 ++ slot_with 0 7 3) in num (passed_over_lem v 1) ∷ num (passed_over_lem v 2) ∷ []) (0 ∷ 1 ∷ [])
    ∷ case "not over one whose number only a cleared slot has" (let v = shown_from (cleared_with 0 7 1 ++ slot_with 0 7 2) in num (passed_over_lem v 0) ∷ num (passed_over_lem v 1) ∷ []) (0 ∷ 0 ∷ [])
    ∷ case "nor over a cleared one" (let v = shown_from (slot_with 0 7 1 ++ cleared_with 0 7 2) in num (passed_over_lem v 0) ∷ num (passed_over_lem v 1) ∷ []) (0 ∷ 0 ∷ [])
    ∷ case "28 bytes of data: the last ones of a slot" (bytes_of (shown_from (0x53 ∷ 0x54 ∷ 0x00 ∷ 0x07 ∷ data28 ++ slot_with 0 8 0)) 0 4 28) data28
    ∷ case "of the second slot" (bytes_of (shown_from (slot_with 0 8 0 ++ 0x53 ∷ 0x54 ∷ 0x00 ∷ 0x07 ∷ data28 ++ slot_with 0 8 0)) 1 4 28) data28
    ∷ case "each number below n, some number below n, of those below 3"
    (num (all_below 0 (λ i. false)) ∷ num (all_below 3 (λ i. ltb i 3)) ∷ num (all_below 4 (λ i. ltb i 3)) ∷ num (some_below 0 (λ i. true)) ∷ num (some_below 3 (λ i. eqb i 3)) ∷ num (some_below 4 (λ i. eqb i 3)) ∷ []) (1 ∷ 1 ∷ 0 ∷ 0 ∷ 0 ∷ 1 ∷ [])
    ∷ case "the first: 5 of 5 to 8, 8 of them, and 9 where there is none" (first_from (λ i. ltb 3 i) 5 4 ∷ first_from (λ i. eqb i 8) 5 4 ∷ first_from (λ i. eqb i 9) 5 4 ∷ []) (5 ∷ 8 ∷ 9 ∷ [])
    ∷ case "all of them, lowest first: of 5 to 8 those above 6" (those_from (λ i. ltb 6 i) 5 4) (7 ∷ 8 ∷ [])
    ∷ case "number and data: slot 0" (record_frame 0 7 data28) (0x02 ∷ 0x01 ∷ 0x00 ∷ 0x02 ∷ 0x00 ∷ 0x07 ∷ data28)
    ∷ case "slot 7: the page's last 30 bytes, the number high byte first" (record_frame 7 0x0102 data28) (0x02 ∷ 0x01 ∷ 0x00 ∷ 0xE2 ∷ 0x01 ∷ 0x02 ∷ data28)
    ∷ case "slot 8: the next page" (record_frame 8 0xFFFF data28) (0x02 ∷ 0x01 ∷ 0x01 ∷ 0x02 ∷ 0xFF ∷ 0xFF ∷ data28)
    ∷ case "slot 2047, the last" (record_frame 2047 0xFF00 data28) (0x02 ∷ 0x01 ∷ 0xFF ∷ 0xE2 ∷ 0xFF ∷ 0x00 ∷ data28)
    ∷ case "then its mark: slots 0, 7, 8 and 2047" (frames_in (mark_frame 0 0x53 0x54 ∷ mark_frame 7 0x53 0x54 ∷ mark_frame 8 0x53 0x54 ∷ mark_frame 2047 0x53 0x54 ∷ []))
    (6 ∷ 0x02 ∷ 0x01 ∷ 0x00 ∷ 0x00 ∷ 0x53 ∷ 0x54 ∷ 6 ∷ 0x02 ∷ 0x01 ∷ 0x00 ∷ 0xE0 ∷ 0x53 ∷ 0x54 ∷ 6 ∷ 0x02 ∷ 0x01 ∷ 0x01 ∷ 0x00 ∷ 0x53 ∷ 0x54 ∷ 6 ∷ 0x02 ∷ 0x01 ∷ 0xFF ∷ 0xE0 ∷ 0x53 ∷ 0x54 ∷ [])
    ∷ case "clears to 00 00, one write each" (frames_in (clearings (3 ∷ 9 ∷ []))) (6 ∷ 0x02 ∷ 0x01 ∷ 0x00 ∷ 0x60 ∷ 0x00 ∷ 0x00 ∷ 6 ∷ 0x02 ∷ 0x01 ∷ 0x01 ∷ 0x20 ∷ 0x00 ∷ 0x00 ∷ [])
    ∷ case "an allowance of 0, and of 65,535" (store_with 65536 65536 28 0 ++ store_with 65536 65536 28 65535) (1 ∷ 1 ∷ [])
    ∷ case "above 65,535" (store_with 65536 65536 28 65536) (0 ∷ [])
    ∷ case "data not of 28 bytes: 0, 27, 29" (store_with 65536 65536 0 9 ++ store_with 65536 65536 27 9 ++ store_with 65536 65536 29 9) (0 ∷ 0 ∷ 0 ∷ [])
    ∷ case "the read's buffers hold the whole list" (store_with 65535 65536 28 9 ++ store_with 65537 65536 28 9 ++ store_with 65536 65535 28 9 ++ store_with 65536 65537 28 9 ++ store_with 65535 65535 28 9) (0 ∷ 0 ∷ 0 ∷ 0 ∷ 0 ∷ [])
    ∷ case "a lookup buffer of 28 bytes, and not" (lookup_with 65536 65536 28 ++ lookup_with 65536 65536 0 ++ lookup_with 65536 65536 27 ++ lookup_with 65536 65536 29) (1 ∷ 0 ∷ 0 ∷ 0 ∷ [])
    ∷ case "and the read's buffers" (lookup_with 65535 65536 28 ++ lookup_with 65537 65536 28 ++ lookup_with 65536 65535 28 ++ lookup_with 65536 65537 28) (0 ∷ 0 ∷ 0 ∷ 0 ∷ [])
    ∷ case "the place of the first poll that reads BUSY 0: 1, 2 and 3 of 3" (waited 3 1 ++ waited 3 2 ++ waited 3 3) (1 ∷ 1 ∷ 1 ∷ 2 ∷ 1 ∷ 3 ∷ [])
    ∷ case "or the allowance: 4 of 3, never" (waited 3 4 ++ waited 3 0) (0 ∷ 3 ∷ 0 ∷ 3 ∷ [])
    ∷ case "no poll allowed" (waited 0 0 ++ waited 0 1) (0 ∷ 0 ∷ 0 ∷ 0 ∷ [])
    ∷ case "added over the writes" (account (2 ∷ 1 ∷ []) 0 2) (2 ∷ 3 ∷ [])
    ∷ case "no entry: never" (account (2 ∷ 1 ∷ []) 0 3) (2 ∷ 6 ∷ [])
    ∷ case "0: never, and no write behind it" (account (2 ∷ 0 ∷ 1 ∷ []) 0 3) (1 ∷ 5 ∷ [])
    ∷ case "beyond the allowance" (account (4 ∷ 1 ∷ []) 0 2) (0 ∷ 3 ∷ [])
    ∷ case "from the second entry on" (account (4 ∷ 1 ∷ 3 ∷ []) 1 2) (2 ∷ 4 ∷ [])
    ∷ case "no writes" (account (1 ∷ []) 0 0) (0 ∷ 0 ∷ [])
    ∷ case "every write completed: done" (told (writes_account bare 2 3 (1 ∷ 3 ∷ []))) (0 ∷ 4 ∷ 2 ∷ [])
    ∷ case "18 polls used up" (told (writes_account bare 2 3 (1 ∷ []))) (18 ∷ 4 ∷ 1 ∷ [])
    ∷ case "in a write-locked block 11, at the first write" (told (writes_account new_old_chip.rest 2 3 (1 ∷ 3 ∷ []))) (11 ∷ 0 ∷ 0 ∷ [])
    ∷ case "write-locked is bit 0 alone" (told (writes_account (with_protection 1 bare) 2 3 (1 ∷ 3 ∷ [])) ++ told (writes_account (with_protection 0xFFFF_FFFF_FFFE bare) 2 3 (1 ∷ 3 ∷ []))) (11 ∷ 0 ∷ 0 ∷ 0 ∷ 4 ∷ 2 ∷ [])
    ∷ case "beside a suspended page program 8" (told (writes_account (with_suspended (ProgramPage 0) bare) 2 3 (1 ∷ 3 ∷ []))) (8 ∷ 0 ∷ 0 ∷ [])
    ∷ case "8 before 11" (told (writes_account (with_suspended (ProgramPage 0) new_old_chip.rest) 2 3 (1 ∷ 3 ∷ []))) (8 ∷ 0 ∷ 0 ∷ [])
    ∷ case "a suspended erase refuses none" (told (writes_account (with_suspended (EraseSector 0) bare) 2 3 (1 ∷ 3 ∷ []))) (0 ∷ 4 ∷ 2 ∷ [])
    ∷ case "10 polls before this write: the completion before poll 1, and before the last allowed" (polled 3 1 ++ polled 3 3) (0 ∷ 11 ∷ 0 ∷ 13 ∷ [])
    ∷ case "before one that is not made, and never" (polled 3 4 ++ polled 3 0) (18 ∷ 13 ∷ 18 ∷ 13 ∷ [])
    ∷ case "none allowed" (polled 0 0 ++ polled 0 1) (18 ∷ 10 ∷ 18 ∷ 10 ∷ [])
    ∷ case "the two memories, as they are lent" (memories (state_at one_record one_desk)) (1 ∷ 0xA1 ∷ 1 ∷ 0xB1 ∷ [])
    ∷ case "what came: number, polls, reply, marks and the two memories" (came (came_of one_record one_desk) ++ memories (came_of one_record one_desk).ended.state) (5 ∷ 6 ∷ 0xC1 ∷ 0xD1 ∷ 1 ∷ 0xA1 ∷ 1 ∷ 0xB1 ∷ [])
    ∷ case "a refused read leaves its reply and its marks" (stored_there 65535) (3 ∷ 0 ∷ 0xFF ∷ 0x00 ∷ [])
    ∷ case "1: nothing is sent, and they stay" (stored_there 65536) (1 ∷ 0 ∷ 0x5A ∷ 0xA5 ∷ [])
    ∷ case "a refusal leaves lookup's buffer unchanged: 3" (looked_up_there data28) (3 ∷ 0 ∷ 0xFF ∷ 0x00 ∷ data28)
    ∷ case "and 1" (looked_up_there (0x11 ∷ 0x22 ∷ [])) (1 ∷ 0 ∷ 0x5A ∷ 0xA5 ∷ 0x11 ∷ 0x22 ∷ [])
    ∷ []

-- every case holds, and no line is missing
pub record CasesHold : Type 0 where
  pub hold : Each (λ c. c.gives ≡ c.must) cases
  pub whole : length cases ≡ 67
