-- The first row of a line, and the one right below it. docs/PLAYER.md: "a row an event with the line's number: the frame and what it wants, the command by its
-- name with its operands, then `done`, `started, busy`, the reply, or `refused` with the number". A row that is not told is blank.
use Rattle.std.specs.Prelude.{ℕ, ◌+◌, min, List, eqb, ltb}
use Rattle.rules.specs.declared.Rest.{Rest}
use Rattle.rules.specs.declared.Work.{Work}
use Rattle.rules.specs.Words.{pick}
use Rattle.rules.specs.Registers.{status}
use Rattle.grammar.specs.Slots as slots
use Rattle.grammar.specs.Verbs as verbs
use Rattle.script.specs.declared.Line.{Line}
use Rattle.fields.specs.Records.{slot}
use Rattle.writing.specs.declared.Row.{Row}
use Rattle.writing.specs.Rows.{blank}
use Rattle.showing.specs.Counts.{dumped}
use Rattle.page.specs.Page.{form}
use Rattle.describing.specs.Works.{told, work, places}
use Rattle.describing.specs.Commands.{answer_on}
use Rattle.rows.specs.Events.{numbered, below, sent_row, fits, ended_on, cut_on, word_on}
use Rattle.standing.specs.declared.Deed.{Deed}
use Rattle.chip.specs.declared.events.Event.{Event}
use Rattle.standing.specs.declared.Question.{Question}
use Rattle.standing.specs.declared.Setting.{Setting}

-- ---- an event

-- the line's words; the answer stands in the column of the answers (form 7)
unfoldable pub headed : ℕ → ℕ → ℕ → Row
headed line n a = form 7 0 0 0 (numbered line n a 0 0)

-- "where the frame leaves no room, the answer stands below it"
unfoldable pub frame_row : ℕ → ℕ → ℕ → List ℕ → List ℕ → List ℕ → Row
frame_row line wanted number sent reply marks =
    pick (fits (sent_row line sent wanted)) (answer_on sent number reply marks (form 7 0 0 0 (sent_row line sent wanted))) (sent_row line sent wanted)

-- "a completion says what ended, a power cut after how much of it": `ran` is the work that ran before
abbrev pub event_row : Event → ℕ → List ℕ → ℕ → Work → List ℕ → List ℕ → List ℕ → Row
event_row Event.Frame line s number ran sent reply marks = frame_row line (slot s slots.wanted) number sent reply marks
event_row Event.Completion line s number ran sent reply marks = ended_on ran number (headed line 12 0)
event_row Event.Cut line s number ran sent reply marks = cut_on ran (slot s slots.from) number (headed line 13 (slot s slots.from))

-- ---- a setting: what was set; 15 in place of 14 of the old part, 209 in place of 208 of the Security ID

abbrev pub setting_row : Setting → ℕ → List ℕ → Row
setting_row Setting.New line s = numbered line (14 + min (slot s slots.old) 1) 0 0 0
setting_row Setting.Fill line s = numbered line (208 + min (slot s slots.of_id) 1) (slot s slots.from) (slot s slots.size) (slot s slots.filling)
setting_row Setting.Pattern line s = numbered line 213 0 0 0
setting_row Setting.Buffer line s = numbered line 210 (slot s slots.from) (slot s slots.size) (slot s slots.filling)
setting_row Setting.Lend line s = numbered line 211 (slot s slots.from) (slot s slots.size) 0
setting_row Setting.Record line s = numbered line 212 0 0 0
setting_row Setting.Full line s = numbered line 215 0 0 0
setting_row Setting.Short line s = numbered line 216 0 0 0
setting_row Setting.Strict line s = numbered line 214 0 0 0

-- ---- a question

-- "so many bytes as stored, from a place in hex, of the array or the Security ID" (171)
unfoldable pub dump_row : ℕ → List ℕ → Row
dump_row line s = numbered line (170 + min (slot s slots.of_id) 1) (slot s slots.from) (dumped s) 0

-- the status, "what runs with its range", the protection register, a dump, and whether the record is as the line says (217: it is)
abbrev pub question_row : Question → ℕ → List ℕ → ℕ → Rest → Row
question_row Question.Status line s number rest = numbered line 140 (status rest) 0 0
question_row Question.Work line s number rest = places (told rest.works.running) (work (told rest.works.running) (numbered line 156 0 0 0))
question_row Question.Locks line s number rest = numbered line 158 rest.locks.protection rest.locks.permanent 0
question_row Question.Dump line s number rest = dump_row line s
question_row Question.Is line s number rest = numbered line (217 + min number 1) 0 0 0

-- ---- the first row

-- "a wrong line is answered with its number, the word that is wrong and its column"; a line of nothing, or of a remark alone, has none.
-- The rows of a file are told by crate post_rows, those of the station list by crate station_rows
abbrev pub head_row : Deed → ℕ → Line → ℕ → Work → Rest → List ℕ → List ℕ → List ℕ → Row
head_row Deed.Nothing line l number ran rest sent reply marks = blank
head_row (Deed.Event e) line l number ran rest sent reply marks = event_row e line l.slots number ran sent reply marks
head_row (Deed.Setting s) line l number ran rest sent reply marks = setting_row s line l.slots
head_row (Deed.Question q) line l number ran rest sent reply marks = question_row q line l.slots number rest
head_row (Deed.Post f) line l number ran rest sent reply marks = blank
head_row (Deed.Call k) line l number ran rest sent reply marks = blank
head_row Deed.Wrong line l number ran rest sent reply marks = word_on l.word l.length l.column (numbered line 172 0 0 0)

-- ---- the row below it

-- the answer that found no room beside its frame
unfoldable pub answer_below : ℕ → ℕ → ℕ → List ℕ → List ℕ → List ℕ → Row
answer_below line wanted number sent reply marks = pick (fits (sent_row line sent wanted)) blank (answer_on sent number reply marks (form 1 0 0 0 blank))

-- "what is suspended, with its range"
unfoldable pub suspended_row : Work → Row
suspended_row aside = places (told aside) (work (told aside) (below 157 0 0 0))

-- "what is allowed there": a form for each place of the grammar, from 222 on, of the places from 54 on from 311 on, of those from 58 on from 322 on
unfoldable pub allowed_row : ℕ → Row
allowed_row place = form (pick (ltb place 54) (222 + place) (pick (ltb place 58) (257 + place) (264 + min place 73))) 0 0 0 (below 177 0 0 0)

unfoldable pub second_row : ℕ → ℕ → ℕ → ℕ → Work → ℕ → List ℕ → List ℕ → List ℕ → Row
second_row verb line wanted number aside place sent reply marks =
    pick (eqb verb verbs.frame) (answer_below line wanted number sent reply marks)
    (pick (eqb verb verbs.work) (suspended_row aside)
    (pick (eqb verb verbs.wrong) (allowed_row place) blank))
