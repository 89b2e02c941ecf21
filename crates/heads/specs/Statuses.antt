-- The rows of a status. docs/PLAYER.md: "the status and the configuration with their bits by name, the protocol, the reset enable, the burst, the part". A row
-- that is not told is blank.
use Rattle.std.specs.Prelude.{ℕ, ◌+◌, min, Bool, ◌&&◌, eqb}
use Rattle.rules.specs.declared.Burst.{Burst}
use Rattle.rules.specs.declared.Rest.{Rest}
use Rattle.rules.specs.Words.{bit, pick}
use Rattle.rules.specs.Bursts.{burst_length}
use Rattle.rules.specs.Registers.{status, configuration}
use Rattle.grammar.specs.Verbs as verbs
use Rattle.writing.specs.declared.Row.{Row}
use Rattle.writing.specs.Rows.{blank}
use Rattle.page.specs.Page.{form}
use Rattle.rows.specs.Events.{below, part_on}

-- six rows: BUSY, WEL, WSE, WSP, WPLD, SEC, each where it is set
unfoldable pub status_bit : Rest → ℕ → Row
status_bit rest i = pick (bit (min i 5) (status rest)) (below (141 + min i 5) 0 0 0) blank

unfoldable pub configuration_row : ℕ → Rest → Row
configuration_row verb rest = pick (eqb verb verbs.status) (below 147 (configuration rest) 0 0) blank

-- three rows: IOC, BPNV, WPEN
unfoldable pub bit_of : ℕ → ℕ
bit_of i = pick (eqb i 0) 1 (pick (eqb i 1) 3 7)

unfoldable pub bit_row : ℕ → Rest → ℕ → Row
bit_row verb rest i = pick (eqb verb verbs.status && bit (bit_of i) (configuration rest)) (below (148 + min i 2) 0 0 0) blank

-- SPI (151) or SQI, and whether a 99 is taken next
unfoldable pub protocol_name : Bool → Row
protocol_name sqi = pick sqi (below 152 0 0 0) (below 151 0 0 0)

unfoldable pub enable_row : Bool → Bool → Row
enable_row sqi enable = pick enable (form 153 0 0 0 (protocol_name sqi)) (form 154 0 0 0 (protocol_name sqi))

-- and how many bytes a burst has, and the part
unfoldable pub protocol_row : Bool → Bool → Bool → Burst → Row
protocol_row sqi enable ba b = part_on ba (form 39 (burst_length b) 0 0 (enable_row sqi enable))

unfoldable pub protocol_told : ℕ → Bool → Bool → Bool → Burst → Row
protocol_told verb sqi enable ba b = pick (eqb verb verbs.status) (protocol_row sqi enable ba b) blank
