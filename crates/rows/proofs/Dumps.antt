-- The row of a dump. Assumes nothing.
use Prim.Native.Nat.{ℕ, ◌-◌, ◌*◌}
use mathlib.Core.List.{List}
use lib.ListN.{length}
use Rattle.writing.specs.declared.Row.{Row}
use Rattle.page.specs.Page.{form}
use Rattle.writing.specs.Rows.{blank, put, blanks}
use Rattle.byte_text.specs.Bytes.{bytes, within, letters}

-- a dump's row of at most m bytes, of which k are there
unfoldable pub dumped : ℕ → List ℕ → ℕ → ℕ → Row
dumped place l m k =
    form 199 0 0 0
    (put (form 198 0 0 0 (put (put (form 197 place 0 0 blank) (bytes l place (within (length l) place m))) (blanks (3 * (16 - k)))))
    (letters l place (within (length l) place m)))
