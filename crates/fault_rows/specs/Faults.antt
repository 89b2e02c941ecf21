-- What is told of a file that is refused, below the line that says so.
use Rattle.std.specs.Prelude.{ℕ, ◌-◌, ◌/◌, ◌%◌, Bool, eqb, ltb, Option, None, Some}
use Rattle.rules.specs.Words.{pick}
use Rattle.writing.specs.declared.Row.{Row}
use Rattle.writing.specs.Rows.{blank}
use Rattle.page.specs.Page.{form}
use Rattle.rows.specs.Events.{below}
use Rattle.image.specs.declared.Fault.{Fault}
use Rattle.image.specs.declared.What.{What}

-- ---- of 1, its length

-- the program reads one byte more than a file can have, so that a longer one shows
unfoldable pub length_row : Bool → ℕ → Row
length_row raw n =
    pick raw (pick (ltb 2097152 n) (below 297 0 0 0) (below 296 n 0 0))
    (pick (ltb 2148374 n) (below 295 0 0 0) (below 294 n 0 0))

-- ---- of 15, in which record and what: "record PG 17: sum is 12 34, the body's is 12 35"

unfoldable pub record_row : ℕ → Row
record_row at = pick (eqb at 0) (below 299 0 0 0) (pick (eqb at 1) (below 300 0 0 0) (below 301 (at - 2) 0 0))

abbrev pub pair_on : ℕ → ℕ → Row → Row
pair_on n x r = form n (x / 256) (x % 256) 0 r

abbrev pub pairs_on : ℕ → ℕ → ℕ → ℕ → Row → Row
pairs_on n found m due r = pair_on m due (pair_on n found r)

abbrev pub fault_on : What → ℕ → ℕ → Row → Row
fault_on What.Length found due r = blank
fault_on What.Mark found due r = pairs_on 302 found 305 due r
fault_on What.Sum found due r = pairs_on 303 found 306 due r
fault_on What.PageNumber found due r = pairs_on 304 found 305 due r
fault_on What.BurstCode found due r = form 307 found 0 0 r
fault_on What.ReadLock found due r = form 308 found 0 0 r
fault_on What.Unprotected found due r = form 309 found due 0 r

abbrev pub fault_row : Option Fault → Row
fault_row None = blank
fault_row (Some f) = fault_on f.what f.found f.due (record_row f.at)
