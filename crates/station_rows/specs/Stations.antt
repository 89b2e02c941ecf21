-- The rows of a line with a call, by the parts of what is told of any line. That the number is not the expected one is told as for an event: crate reasons,
-- `unmet_row`. The list is what the call's read showed. A row that is not told is blank.
use Rattle.std.specs.Prelude.{ℕ, ◌+◌, ◌-◌, ◌*◌, min, not, ◌&&◌, ◌||◌, List, [], ◌∷◌, eqb, ltb, leb, length, get_or, replicate, Option, Some, None}
use Rattle.rules.specs.declared.Chip.{Chip}
use Rattle.rules.specs.Words.{pick}
use Rattle.stations.specs.Slots.{Shown, shown_in, slot_count, those_from, station, live_of, slot_of, free_slot}
use Rattle.stations.specs.Calls.{list_size}
use Rattle.census.specs.declared.Counts.{Counts}
use Rattle.census.specs.Census.{counts_below, found}
use Rattle.grammar.specs.Slots as slots
use Rattle.script.specs.declared.Line.{Line}
use Rattle.script.specs.Lines.{line_of}
use Rattle.expecting.specs.declared.Verdict.{Verdict}
use Rattle.fields.specs.Records.{said}
use Rattle.writing.specs.declared.Row.{Row}
use Rattle.writing.specs.Rows.{blank, put}
use Rattle.byte_text.specs.Bytes.{within, letters}
use Rattle.page.specs.Page.{form}
use Rattle.why.specs.Why.{why, malformed_why}
use Rattle.rows.specs.Events.{numbered, below, reply_row}
use Rattle.reasons.specs.Reasons.{expected_from, came_row}
use Rattle.standing.specs.declared.Call.{Call}
use Rattle.standing.specs.declared.Playing.{Playing}
use Rattle.standing.specs.Benches.{front}
use Rattle.ordering.specs.declared.Part.{Part}
use Rattle.ordering.specs.declared.Place.{Place}
use Rattle.calling.specs.declared.Account.{Account}
use Rattle.calls.specs.Lists.{station_of, allowance_of}
use Rattle.calling.specs.Lines.{errand_of}

-- ---- the first row: the line's words, and the answer in its column (form 7)

-- `refused` and the number; of polls that are used up also how many were made
unfoldable pub refused_on : ℕ → ℕ → Row → Row
refused_on number polls r = pick (eqb number 18) (form 352 polls 0 0 (form 21 number 0 0 r)) (form 21 number 0 0 r)

-- "a done store says the slot and the polls"
unfoldable pub store_head : ℕ → ℕ → ℕ → ℕ → Shown → Row
store_head line n number polls v =
    pick (eqb number 0) (form 341 (free_slot v) polls 0 (form 7 0 0 0 (numbered line 338 n 0 0))) (refused_on number polls (form 7 0 0 0 (numbered line 338 n 0 0)))

-- "a done find says the slot and the data": as text here, in hexadecimal below
unfoldable pub find_head : ℕ → ℕ → ℕ → List ℕ → Shown → Row
find_head line n number bytes v =
    pick (eqb number 0)
    (form 199 0 0 0 (put (form 342 (slot_of v n) 0 0 (form 7 0 0 0 (numbered line 339 n 0 0))) (letters bytes 0 (within (length bytes) 0 28))))
    (form 21 number 0 0 (form 7 0 0 0 (numbered line 339 n 0 0)))

-- how many stations lookup finds
abbrev pub station_count : Counts → ℕ
station_count c = c.live - c.passed

unfoldable pub stations_head : ℕ → ℕ → Counts → Row
stations_head line number c =
    pick (eqb number 0) (form 353 (station_count c) 0 0 (form 7 0 0 0 (numbered line 340 0 0 0))) (form 21 number 0 0 (form 7 0 0 0 (numbered line 340 0 0 0)))

-- ---- what was found, sixteen bytes a row

abbrev pub sure : List ℕ
sure = replicate 28 1

unfoldable pub found_row : ℕ → ℕ → List ℕ → Row
found_row number i bytes = pick (eqb number 0) (reply_row (min i 1 * 16) bytes sure) blank

-- ---- the list: "number, slot, data as text", a row for each slot that lookup finds

unfoldable pub slot_row : Shown → List ℕ → ℕ → Row
slot_row v reply i = form 199 0 0 0 (put (below 348 (station v i) i 0) (letters reply (i * 32 + 4) (within (length reply) (i * 32 + 4) 28)))

unfoldable pub found_slot_row : Shown → List ℕ → ℕ → Row
found_slot_row v reply i = pick (found v i) (slot_row v reply i) blank

-- as many as are shown
unfoldable pub station_row : ℕ → ℕ → Shown → List ℕ → ℕ → Row
station_row number cut v reply i = pick ((eqb number 0 && ltb i cut) && ltb i slot_count) (found_slot_row v reply i) blank

-- and how many are left out
unfoldable pub left_out_row : ℕ → ℕ → Counts → Row
left_out_row number cut c = pick ((eqb number 0 && ltb cut slot_count) && ltb 32 (station_count c)) (below 349 (station_count c - 32) 0 0) blank

-- "how many slots are empty, live, passed over and dead"
unfoldable pub counts_row : Counts → Row
counts_row c = form 351 c.dead 0 0 (below 350 c.empty c.live c.passed)

-- ---- why

-- the number's words
unfoldable pub number_form : ℕ → ℕ
number_form n = pick (ltb n 15) (24 + n) (pick (eqb n 15) 276 (303 + min n 18))

unfoldable pub number_row : ℕ → Row
number_row number = pick (eqb number 0) blank (below (number_form number) 0 0 0)

-- of 1 which length: of the data, the allowance, or what the chip says of the read
unfoldable pub length_row : Call → ℕ → ℕ → ℕ → ℕ → Chip → Row
length_row Call.Store size allowance array security before =
    pick (not (eqb size 28)) (below 343 size 0 0)
    (pick (ltb 65535 allowance) (below 344 allowance 0 0) (malformed_why array security 4 65536 65536 before (form 1 0 0 0 blank)))
length_row Call.Find size allowance array security before = malformed_why array security 4 65536 65536 before (form 1 0 0 0 blank)
length_row Call.Stations size allowance array security before = malformed_why array security 4 65536 65536 before (form 1 0 0 0 blank)

-- of 18 which write runs: of number and data, of the mark, or the clearing of another one's mark
unfoldable pub running_row : ℕ → ℕ → Shown → Row
running_row n writes v =
    pick (eqb writes 0) (below 345 (free_slot v) 0 0)
    (pick (eqb writes 1) (below 346 (free_slot v) 0 0) (below 347 (get_or (those_from (live_of v n) 0 slot_count) (writes - 2) slot_count) 0 0))

-- of the chip's numbers what of them holds: 8 and 11 of a write, the others of the read
unfoldable pub chip_row : ℕ → Chip → Row
chip_row number before =
    pick (eqb number 8 || eqb number 11) (why number before.rest (0x02 ∷ 0x01 ∷ 0x00 ∷ 0x00 ∷ []) (form 1 0 0 0 blank))
    (why number before.rest (0x03 ∷ 0x01 ∷ 0x00 ∷ 0x00 ∷ []) (form 1 0 0 0 blank))

unfoldable pub why_row : Call → ℕ → ℕ → ℕ → ℕ → ℕ → ℕ → ℕ → Chip → Shown → Row
why_row k number n size allowance writes array security before v =
    pick (eqb number 0 || eqb number 17) blank
    (pick (eqb number 1) (length_row k size allowance array security before)
    (pick (eqb number 16) (counts_row (counts_below v slot_count))
    (pick (eqb number 18) (running_row n writes v)
    (chip_row number before))))

-- ---- what of the found bytes is not met

unfoldable pub length_unmet : ℕ → Verdict → ℕ → ℕ → Row
length_unmet i v count number = pick (eqb i 2 && v.length) (below 185 count (pick (eqb number 0) 28 0) 0) blank

-- ---- by the part

-- how many bytes of data the store gets: a word is filled up
unfoldable pub size_of : List ℕ → ℕ → ℕ
size_of s n = pick (said s slots.as_text && leb n 28) 28 n

unfoldable pub head_row : Call → ℕ → ℕ → ℕ → Account → Shown → Row
head_row Call.Store line n number a v = store_head line n number a.polls v
head_row Call.Find line n number a v = find_head line n number a.bytes v
head_row Call.Stations line n number a v = stations_head line number a.counts

unfoldable pub bytes_row : Call → ℕ → Account → ℕ → Shown → List ℕ → Row
bytes_row Call.Store number a i v reply = blank
bytes_row Call.Find number a i v reply = found_row number i a.bytes
bytes_row Call.Stations number a i v reply = pick (ltb i slot_count) (station_row number a.cut v reply i) (left_out_row number a.cut a.counts)

unfoldable pub more_row : Call → ℕ → Account → Row
more_row Call.Store number a = blank
more_row Call.Find number a = blank
more_row Call.Stations number a = pick (eqb number 0) (counts_row a.counts) blank

abbrev pub part_row : Part → ℕ → Call → Playing → Account → Line → List ℕ → List ℕ → List ℕ → List ℕ → Row
part_row Part.Remark i k p a l expected known reply marks = blank
part_row Part.Head i k p a l expected known reply marks = head_row k p.bench.line (station_of l.slots) p.number a (shown_in reply marks)
part_row Part.Second i k p a l expected known reply marks = blank
part_row Part.Bytes i k p a l expected known reply marks = bytes_row k p.number a i (shown_in reply marks) reply
part_row Part.More i k p a l expected known reply marks = more_row k p.number a
part_row Part.Configuration i k p a l expected known reply marks = blank
part_row Part.Bits i k p a l expected known reply marks = blank
part_row Part.Protocol i k p a l expected known reply marks = blank
part_row Part.Number i k p a l expected known reply marks = number_row p.number
part_row Part.Why i k p a l expected known reply marks =
    why_row k p.number (station_of l.slots) (size_of l.slots l.sent) (allowance_of l.slots) a.writes p.bench.array p.bench.security p.before (shown_in reply marks)
part_row Part.Torn i k p a l expected known reply marks = blank
part_row Part.Unmet i k p a l expected known reply marks = length_unmet i a.verdict l.expected p.number
part_row Part.Expected i k p a l expected known reply marks = expected_from a.verdict.place a.verdict.compared expected known
part_row Part.Came i k p a l expected known reply marks = came_row a.verdict.place a.verdict.compared a.bytes sure expected known
part_row Part.Memory i k p a l expected known reply marks = blank
part_row Part.Over i k p a l expected known reply marks = blank

-- what is lent, cut to what the line is about, and to the list
abbrev pub cut_row : Call → Playing → Account → Place → List ℕ → List ℕ → List ℕ → List ℕ → Row
cut_row k p a at expected known reply marks =
    let l = line_of p.reading in
    part_row at.part at.row k p a l (front l.expected expected) (front l.expected known) (front list_size reply) (front list_size marks)

abbrev pub row_if : Option Call → Playing → Account → Place → List ℕ → List ℕ → List ℕ → List ℕ → Row
row_if None p a at expected known reply marks = blank
row_if (Some k) p a at expected known reply marks = cut_row k p a at expected known reply marks

abbrev pub row_of : Playing → Account → Place → List ℕ → List ℕ → List ℕ → List ℕ → Row
row_of p = row_if (errand_of p) p
