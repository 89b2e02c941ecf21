-- A row of what is told of the line that was played, by its part.
use Rattle.std.specs.Prelude.{ℕ, ◌*◌, min, List, eqb, ltb, length}
use Rattle.grammar.specs.Verbs as verbs
use Rattle.rules.specs.declared.Work.{Work}
use Rattle.rules.specs.Words.{pick}
use Rattle.rules.specs.Blocks.{array_size_lem, security_size_lem}
use Rattle.grammar.specs.Slots as slots
use Rattle.script.specs.declared.Line.{Line}
use Rattle.script.specs.Lines.{line_of}
use Rattle.fields.specs.Records.{slot}
use Rattle.writing.specs.declared.Row.{Row}
use Rattle.writing.specs.Rows.{blank}
use Rattle.rows.specs.Events.{remark_row}
use Rattle.chip.specs.declared.events.Event.{Event}
use Rattle.standing.specs.declared.Playing.{Playing}
use Rattle.standing.specs.Deeds.{deed_of}
use Rattle.standing.specs.Benches.{front}
use Rattle.lending.specs.Lending.{wanted, marks_wanted}
use Rattle.reasons.specs.Reasons.{number_row, why_row, unmet_row, expected_from, came_row}
use Rattle.heads.specs.Heads.{head_row, second_row}
use Rattle.heads.specs.Statuses.{configuration_row, bit_row, protocol_told}
use Rattle.tear_rows.specs.Tears.{stopped_row, torn_row}
use Rattle.byte_rows.specs.Bytes.{byte_row, more_row}
use Rattle.byte_rows.specs.Unheld.{unheld_row}
use Rattle.ordering.specs.declared.Part.{Part}
use Rattle.ordering.specs.declared.Place.{Place}

-- row i of a remark, from its 79 i-th byte on
unfoldable pub remark_part : List ℕ → ℕ → Row
remark_part remark i = pick (ltb (min i 65537 * 79) (length remark)) (remark_row remark (min i 65537 * 79)) blank

-- what the line stopped, and what it tore
unfoldable pub torn_part : ℕ → ℕ → ℕ → Work → List ℕ → List ℕ → List ℕ → List ℕ → Row
torn_part i verb number ran s sent array security =
    pick (eqb i 0) (stopped_row verb number ran (slot s slots.from) sent) (torn_row verb number ran s sent array security)

-- a part's row i, by the line and what it came to. The lists are what the line sent, expects, how it expects it, remarks, was answered, and the two memories
abbrev pub part_row : Part → ℕ → Playing → Line → List ℕ → List ℕ → List ℕ → List ℕ → List ℕ → List ℕ → List ℕ → List ℕ → Row
part_row Part.Remark i p l sent expected known remark reply marks array security = remark_part remark i
part_row Part.Head i p l sent expected known remark reply marks array security =
    head_row (deed_of l.verb) p.bench.line l p.number p.before.rest.works.running p.bench.chip.rest sent reply marks
part_row Part.Second i p l sent expected known remark reply marks array security =
    second_row (verbs.number l.verb) p.bench.line (slot l.slots slots.wanted) p.number p.bench.chip.rest.works.suspended l.place sent reply marks
part_row Part.Bytes i p l sent expected known remark reply marks array security =
    byte_row (verbs.number l.verb) i p.bench.full l.slots p.number p.bench.chip.rest sent reply marks array security
part_row Part.More i p l sent expected known remark reply marks array security =
    more_row (verbs.number l.verb) p.bench.full l.slots p.number p.bench.chip.rest.flags.wpld l.place l.word l.length sent
part_row Part.Configuration i p l sent expected known remark reply marks array security = configuration_row (verbs.number l.verb) p.bench.chip.rest
part_row Part.Bits i p l sent expected known remark reply marks array security = bit_row (verbs.number l.verb) p.bench.chip.rest i
part_row Part.Protocol i p l sent expected known remark reply marks array security =
    protocol_told (verbs.number l.verb) p.bench.chip.rest.flags.sqi p.bench.chip.rest.flags.enable p.bench.chip.rest.flags.ba p.bench.chip.rest.burst
part_row Part.Number i p l sent expected known remark reply marks array security = number_row (verbs.number l.verb) p.number
part_row Part.Why i p l sent expected known remark reply marks array security =
    why_row (verbs.number l.verb) p.number p.bench.array p.bench.security (slot l.slots slots.wanted) (marks_wanted Event.Frame l.slots) p.before sent
part_row Part.Torn i p l sent expected known remark reply marks array security =
    torn_part i (verbs.number l.verb) p.number p.before.rest.works.running l.slots sent array security
part_row Part.Unmet i p l sent expected known remark reply marks array security =
    unmet_row i p.verdict (slot l.slots slots.refused) l.expected (slot l.slots slots.wanted)
part_row Part.Expected i p l sent expected known remark reply marks array security =
    expected_from p.verdict.place p.verdict.compared expected known
part_row Part.Came i p l sent expected known remark reply marks array security =
    came_row p.verdict.place p.verdict.compared reply marks expected known
part_row Part.Memory i p l sent expected known remark reply marks array security =
    unheld_row (verbs.number l.verb) p.held l.slots p.bench.chip.rest array security expected
part_row Part.Over i p l sent expected known remark reply marks array security = blank

-- what is lent, cut to what the line is about: its frame, its expected bytes and their kinds, its remark, the reply and the marks that it wants, the memories
abbrev pub row_of_line : Line → Playing → Place → List ℕ → List ℕ → List ℕ → List ℕ → List ℕ → List ℕ → List ℕ → List ℕ → Row
row_of_line l p at frame expected known remark reply marks array security =
    part_row at.part at.row p l (front l.sent frame) (front l.expected expected) (front l.expected known) (front l.remark remark)
    (front (wanted Event.Frame l.slots) reply) (front (marks_wanted Event.Frame l.slots) marks) (front array_size_lem array) (front security_size_lem security)

abbrev pub row_of : Playing → Place → List ℕ → List ℕ → List ℕ → List ℕ → List ℕ → List ℕ → List ℕ → List ℕ → Row
row_of p = row_of_line (line_of p.reading) p
