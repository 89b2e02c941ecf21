-- Rows of bytes, and what is left out of them. A row that is not told is blank.
use Rattle.std.specs.Prelude.{ℕ, Option, Some, None, ◌+◌, ◌-◌, ◌*◌, ◌%◌, min, Bool, false, not, ◌&&◌, List, length, ◌==◌, nat_lt}
use Rattle.rules.specs.declared.Rest.{Rest}
use Rattle.rules.specs.Words.{pick}
use Rattle.rules.specs.Frames.{form_of, opcode}
use Rattle.grammar.specs.Slots as slots
use Rattle.grammar.specs.Verbs as verbs
use Rattle.hinting.specs.Hints.{hint_of}
use Rattle.hinting.specs.declared.Hint.{Hint}
use Rattle.fields.specs.Records.{slot}
use Rattle.writing.specs.declared.Row.{Row}
use Rattle.writing.specs.Rows.{blank}
use Rattle.page.specs.Page.{form}
use Rattle.describing.specs.Commands.{on_row}
use Rattle.rows.specs.Events.{below, reply_row, dump_row}
use Rattle.rows.specs.Questions.{lock_state, run_end, run_row}
use Rattle.heads.specs.Statuses.{status_bit}
use Rattle.showing.specs.Counts.{dumped, reply_shown, dump_shown}

-- ---- a reply

-- of a frame that is done, and whose reply does not stand on its row
unfoldable pub below_frame : ℕ → List ℕ → ℕ → Bool
below_frame number sent n = number == 0 && not (on_row (form_of (opcode sent)).kind n)

-- the sixteen bytes of row i
unfoldable pub reply_part : Bool → ℕ → ℕ → ℕ → List ℕ → List ℕ → List ℕ → Row
reply_part full wanted number i sent reply marks =
    pick (below_frame number sent (length reply) && nat_lt (min i 4097 * 16) (reply_shown full wanted)) (reply_row (min i 4097 * 16) reply marks) blank

-- "cut with a count"
unfoldable pub reply_more : Bool → ℕ → ℕ → List ℕ → Row
reply_more full wanted number sent =
    pick (below_frame number sent wanted && nat_lt (reply_shown full wanted) wanted) (below 196 (wanted - reply_shown full wanted) 0 0) blank

-- ---- the locks

-- "the protection register by address, equal neighbours joined": the group g has the locks of the one before it
unfoldable pub joined : ℕ → ℕ → ℕ → Bool
joined g protection permanent = pick (g == 0) false (lock_state (g - 1) protection permanent == lock_state g protection permanent)

-- where the run that begins with the group g ends: the group after its last one
unfoldable pub lock_end : ℕ → ℕ → ℕ → ℕ
lock_end g protection permanent = run_end (255 - g % 256) (lock_state g protection permanent) protection permanent (g % 256 + 1)

-- a row for the run that begins with the group g
unfoldable pub lock_row : ℕ → ℕ → ℕ → Row
lock_row g protection permanent =
    pick (joined g protection permanent) blank
    (run_row (min g 256) (min (lock_end g protection permanent) 256) (min (lock_state g protection permanent) 7))

-- "and the lock-down"
unfoldable pub down_row : Bool → Row
down_row wpld = pick wpld (below 168 0 0 0) (below 169 0 0 0)

-- ---- a dump

-- "of the array or the Security ID"
unfoldable pub memory_of : List ℕ → List ℕ → List ℕ → List ℕ
memory_of s array security = pick (slot s slots.of_id == 0) array security

-- the sixteen bytes of row i, of those that are shown; places are counted modulo 2^64
unfoldable pub dump_part : Bool → List ℕ → ℕ → List ℕ → Row
dump_part full s i memory =
    pick (nat_lt (min i 131072 * 16) (dump_shown full s))
    (dump_row ((slot s slots.from + min i 131072 * 16) % 18446744073709551616) memory (dump_shown full s - min i 131072 * 16))
    blank

unfoldable pub dump_more : Bool → List ℕ → Row
dump_more full s = pick (nat_lt (dump_shown full s) (dumped s)) (below 196 (dumped s - dump_shown full s) 0 0) blank

-- ---- by the line

unfoldable pub byte_row : ℕ → ℕ → Bool → List ℕ → ℕ → Rest → List ℕ → List ℕ → List ℕ → List ℕ → List ℕ → Row
byte_row verb i full s number rest sent reply marks array security =
    pick (verb == verbs.frame) (reply_part full (slot s slots.wanted) number i sent reply marks)
    (pick (verb == verbs.status) (status_bit rest i)
    (pick (verb == verbs.locks) (lock_row (min i 255) rest.locks.protection rest.locks.permanent)
    (pick (verb == verbs.dump) (dump_part full s i (memory_of s array security)) blank)))

-- "a hint where the word looks like a byte of other than two digits, bytes that do not stand apart or a word that is not in lower case"
unfoldable pub hint_row : ℕ → List ℕ → ℕ → Row
hint_row place word n = hint_told (hint_of place word n)
  where
    hint_form : Hint → ℕ
    hint_form Hint.TwoDigits = 179
    hint_form Hint.Apart = 180
    hint_form Hint.LowerCase = 181

    hint_told : Option Hint → Row
    hint_told None = blank
    hint_told (Some h) = form (hint_form h) 0 0 0 (below 178 0 0 0)

-- what is left out, the lock-down, or a hint
unfoldable pub more_row : ℕ → Bool → List ℕ → ℕ → Bool → ℕ → List ℕ → ℕ → List ℕ → Row
more_row verb full s number wpld place word n sent =
    pick (verb == verbs.frame) (reply_more full (slot s slots.wanted) number sent)
    (pick (verb == verbs.locks) (down_row wpld)
    (pick (verb == verbs.dump) (dump_more full s)
    (pick (verb == verbs.wrong) (hint_row place word n) blank)))
