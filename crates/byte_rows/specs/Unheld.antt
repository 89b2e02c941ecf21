-- A memory, or the status, that is not as expected. docs/PLAYER.md: "Bytes that are expected past a memory's end, or a third byte of a status, are not met";
-- "the same, compared with the expected bytes, over and over". A row that is not told is blank.
use Rattle.std.specs.Prelude.{ℕ, ◌+◌, ◌%◌, not, List, [], ◌∷◌, length, ◌==◌, nat_lt, slice_index}
use Rattle.rules.specs.declared.Rest.{Rest}
use Rattle.rules.specs.Words.{pick}
use Rattle.rules.specs.Registers.{status, configuration}
use Rattle.grammar.specs.Slots as slots
use Rattle.grammar.specs.Verbs as verbs
use Rattle.fields.specs.Records.{slot}
use Rattle.writing.specs.declared.Row.{Row}
use Rattle.writing.specs.Rows.{blank}
use Rattle.byte_text.specs.Bytes.{within}
use Rattle.rows.specs.Events.{below}
use Rattle.byte_rows.specs.Bytes.{memory_of}

-- `held` places of the n from `start` on hold what is expected: where that is not all of them, the next one with both bytes
unfoldable pub held_row : ℕ → ℕ → ℕ → List ℕ → List ℕ → Row
held_row held start n memory expected =
    pick (nat_lt held n)
    (below 191 ((start + held) % 18446744073709551616) (slice_index memory ((start + held) % 18446744073709551616)) (slice_index expected (held % length expected)))
    blank

-- no byte is expected; or more bytes than there are; or a number of them that does not fit a whole number of times
unfoldable pub compared_row : ℕ → ℕ → ℕ → List ℕ → List ℕ → Row
compared_row held start n memory expected =
    pick (length expected == 0) blank
    (pick (nat_lt (within (length memory) start n) n) (below 190 n (within (length memory) start n) 0)
    (pick (not (n % length expected == 0)) (below 190 (length expected) n 0)
    (held_row held start n memory expected)))

-- "expected are the status and, where there are two bytes, the configuration"
unfoldable pub status_row : ℕ → Rest → List ℕ → Row
status_row held rest expected =
    pick (nat_lt 2 (length expected)) (below 203 0 0 0) (compared_row held 0 (length expected) (status rest ∷ configuration rest ∷ []) expected)

unfoldable pub unheld_row : ℕ → ℕ → List ℕ → Rest → List ℕ → List ℕ → List ℕ → Row
unheld_row verb held s rest array security expected =
    pick (verb == verbs.status) (status_row held rest expected)
    (pick (verb == verbs.dump) (compared_row held (slot s slots.from) (slot s slots.size) (memory_of s array security) expected) blank)
