-- The parts of what is told of a line, one after the other: the same order for every line, and a part that has nothing to say of a line is blank.
use Rattle.std.specs.Prelude.{ℕ, ◌+◌, ◌/◌, ◌%◌, min, Bool, true, false, List, ◌==◌, nat_lt}
use Rattle.grammar.specs.Verbs as verbs
use Rattle.rules.specs.Words.{pick}
use Rattle.script.specs.declared.Line.{Line}
use Rattle.script.specs.Lines.{line_of}
use Rattle.standing.specs.declared.Playing.{Playing}
use Rattle.showing.specs.Counts.{count_of}
use Rattle.ordering.specs.declared.Part.{Part}
use Rattle.ordering.specs.declared.Place.{Place}

abbrev pub place_at_lem : Part → ℕ → Place
place_at_lem part row = record { part = part; row = row }

abbrev pub nothing : Place
nothing = place_at_lem Part.Over 0

-- "each line answered when it comes": a line that has ended is told from its first part on
abbrev pub begun : Bool → Place
begun ended = pick ended (place_at_lem Part.Remark 0) nothing

abbrev pub is_over : Part → Bool
is_over Part.Remark = false
is_over Part.Head = false
is_over Part.Second = false
is_over Part.Bytes = false
is_over Part.More = false
is_over Part.Configuration = false
is_over Part.Bits = false
is_over Part.Protocol = false
is_over Part.Number = false
is_over Part.Why = false
is_over Part.Torn = false
is_over Part.Unmet = false
is_over Part.Expected = false
is_over Part.Came = false
is_over Part.Memory = false
is_over Part.Over = true

-- the order: "remarks of the script are shown above their line"; its row and its bytes; below it a refusal's reasons, what was stopped and torn, and then what is not met
abbrev pub part_after : Part → Part
part_after Part.Remark = Part.Head
part_after Part.Head = Part.Second
part_after Part.Second = Part.Bytes
part_after Part.Bytes = Part.More
part_after Part.More = Part.Configuration
part_after Part.Configuration = Part.Bits
part_after Part.Bits = Part.Protocol
part_after Part.Protocol = Part.Number
part_after Part.Number = Part.Why
part_after Part.Why = Part.Torn
part_after Part.Torn = Part.Unmet
part_after Part.Unmet = Part.Expected
part_after Part.Expected = Part.Came
part_after Part.Came = Part.Memory
part_after Part.Memory = Part.Over
part_after Part.Over = Part.Over

-- 79 bytes of a remark a row
unfoldable pub remark_rows : ℕ → ℕ
remark_rows n = pick (n % 79 == 0) (n / 79) (n / 79 + 1)

-- how many rows a part has: of a remark by its length, of bytes by the line, three bits of a configuration, what was stopped and torn, four expectations; one of the others
abbrev pub rows_of : Part → ℕ → ℕ → Bool → List ℕ → ℕ
rows_of Part.Remark remark verb full s = remark_rows (min remark 65537)
rows_of Part.Head remark verb full s = 1
rows_of Part.Second remark verb full s = 1
rows_of Part.Bytes remark verb full s = count_of verb full s
rows_of Part.More remark verb full s = 1
rows_of Part.Configuration remark verb full s = 1
rows_of Part.Bits remark verb full s = 3
rows_of Part.Protocol remark verb full s = 1
rows_of Part.Number remark verb full s = 1
rows_of Part.Why remark verb full s = 1
rows_of Part.Torn remark verb full s = 2
rows_of Part.Unmet remark verb full s = 4
rows_of Part.Expected remark verb full s = 1
rows_of Part.Came remark verb full s = 1
rows_of Part.Memory remark verb full s = 1
rows_of Part.Over remark verb full s = 1

-- the next row of the part, or the first one of the next part
abbrev pub after_of : Line → Bool → Place → Place
after_of l full at =
    pick (nat_lt ((at.row + 1) % 18446744073709551616) (rows_of at.part l.remark (verbs.number l.verb) full l.slots))
    (place_at_lem at.part ((at.row + 1) % 18446744073709551616))
    (place_at_lem (part_after at.part) 0)

abbrev pub after : Playing → Place → Place
after p at = after_of (line_of p.reading) p.bench.full at
