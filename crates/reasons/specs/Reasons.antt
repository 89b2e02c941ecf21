-- What is told below an event. docs/PLAYER.md: "Every refusal says why, below its row: the number's line in document 01, and what of it holds here, from the
-- frame and the record"; "An expectation that is not met is shown under its row with both values". A row that is not told is blank.
use Rattle.std.specs.Prelude.{ℕ, ◌+◌, min, Bool, not, ◌&&◌, ◌||◌, List, eqb, ltb, length, get_or}
use Rattle.rules.specs.declared.Chip.{Chip}
use Rattle.rules.specs.Words.{pick}
use Rattle.grammar.specs.Verbs as verbs
use Rattle.expecting.specs.declared.Verdict.{Verdict}
use Rattle.writing.specs.declared.Row.{Row}
use Rattle.writing.specs.Rows.{blank, put}
use Rattle.byte_text.specs.Bytes.{known}
use Rattle.page.specs.Page.{form}
use Rattle.why.specs.Why.{why, malformed_why}
use Rattle.rows.specs.Events.{below, expected_row}

-- ---- why

-- a frame, a completion or a power cut that was refused: of a done event, and of the other lines, nothing is told here
unfoldable pub refused : ℕ → ℕ → Bool
refused verb number = (eqb verb verbs.frame || eqb verb verbs.done || eqb verb verbs.cut) && not (eqb number 0)

-- the number's line in 01 or 02: forms 25 to 37 have them
unfoldable pub number_row : ℕ → ℕ → Row
number_row verb number = pick (refused verb number) (below (24 + min number 13) 0 0 0) blank

-- and what of it holds here: of 1 which length, or which sentence of a well-formed record; of the others by the record before the event and the frame
unfoldable pub why_row : ℕ → ℕ → ℕ → ℕ → ℕ → ℕ → Chip → List ℕ → Row
why_row verb number array security wanted marks before sent =
    pick (refused verb number)
    (pick (eqb number 1) (malformed_why array security (length sent) wanted marks before (form 1 0 0 0 blank)) (why number before.rest sent (form 1 0 0 0 blank)))
    blank

-- ---- what is not met

-- "the number that is expected; ! 0 is done"
unfoldable pub number_unmet : ℕ → Row
number_unmet number = pick (eqb number 0) (below 186 0 0 0) (below 187 number 0 0)

-- four rows, each where the verdict has it: the number, in a strict script that no refusal comes, how many bytes are expected and how many the reply has, and
-- that the reply is kept
unfoldable pub unmet_row : ℕ → Verdict → ℕ → ℕ → ℕ → Row
unmet_row i v number count wanted =
    pick (eqb i 0 && v.number) (number_unmet number)
    (pick (eqb i 1 && v.strict) (below 189 0 0 0)
    (pick (eqb i 2 && v.length) (below 185 count wanted 0)
    (pick (eqb i 3 && v.kept) (below 188 0 0 0) blank)))

-- the bytes that are expected from the first place that differs on; none where no place does
unfoldable pub expected_from : ℕ → ℕ → List ℕ → List ℕ → Row
expected_from place compared expected kinds = pick (ltb place compared) (expected_row place expected kinds) blank

-- there the chip's byte, ?? where it calls it unknown, and the script's: form 200 a byte, 201 one that is to be unknown
unfoldable pub came_at : ℕ → ℕ → ℕ → ℕ → ℕ → Row
came_at place came mark byte kind = form (199 + min kind 2) byte 0 0 (form 184 0 0 0 (put (below 183 place 0 0) (known came mark)))

unfoldable pub came_row : ℕ → ℕ → List ℕ → List ℕ → List ℕ → List ℕ → Row
came_row place compared reply marks expected kinds =
    pick (ltb place compared) (came_at place (get_or reply place 0) (get_or marks place 0) (get_or expected place 0) (get_or kinds place 0)) blank
