-- The rows around a script. docs/PLAYER.md: "A heading"; "The last row counts events, refusals, differences, and wrong lines if there are any; several scripts
-- have a row for all".
use Rattle.std.specs.Prelude.{ℕ, eqb}
use Rattle.rules.specs.Words.{pick}
use Rattle.tallies.specs.declared.Tally.{Tally}
use Rattle.writing.specs.declared.Row.{Row}
use Rattle.writing.specs.Rows.{blank}
use Rattle.page.specs.Page.{form}

abbrev pub heading : Row
heading = form 22 0 0 0 blank

unfoldable pub total_on : Tally → Row → Row
total_on t r =
    pick (eqb t.wrong 0) (form 192 t.events t.refused t.differences r)
    (form 193 t.wrong 0 0 (form 192 t.events t.refused t.differences r))

abbrev pub total_row : Tally → Row
total_row t = total_on t blank

-- of so many scripts
abbrev pub total_of : ℕ → Tally → Row
total_of scripts t = total_on t (form 205 scripts 0 0 blank)
