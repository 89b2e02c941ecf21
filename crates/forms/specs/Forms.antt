-- Rows as data: a page of forms, a form a line. A form is a text in which % and a letter stand for a piece: one of the numbers that it is given, in
-- their order, or something that needs none.
use Rattle.std.specs.Prelude.{ℕ, ◌-◌, max, true, false, List, [], ◌∷◌, ◌++◌, eqb, ltb, get_or}
use Prim.Native.String.{String}
use Rattle.rules.specs.Words.{pick}
use Rattle.rules.specs.Texts.{ascii}
use Rattle.writing.specs.declared.Row.{Row}
use Rattle.forms.specs.declared.Filling.{Filling}
use Rattle.writing.specs.Rows.{push, put, blanks, decimal, hex}

-- ---- pieces

-- the byte of a letter
abbrev pub letter : String → ℕ
letter s = get_or (ascii s) 0 0

-- blanks before a number that is right-aligned in five columns
unfoldable pub lead : ℕ → List ℕ
lead n = pick (ltb n 10) (blanks 4) (pick (ltb n 100) (blanks 3) (pick (ltb n 1000) (blanks 2) (pick (ltb n 10000) (blanks 1) [])))

-- how many hexadecimal digits: b of a byte, p of a place of the Security ID, o of a reply, a of the array, r of a register
unfoldable pub digits_at : ℕ → ℕ
digits_at k =
    pick (eqb k (letter "b")) 2 (pick (eqb k (letter "p")) 3 (pick (eqb k (letter "o")) 4 (pick (eqb k (letter "a")) 6 12)))

-- a number by its letter: n in decimal, f in decimal in five columns, or hexadecimal
unfoldable pub number_text : ℕ → ℕ → List ℕ
number_text k v =
    pick (eqb k (letter "n")) (decimal v) (pick (eqb k (letter "f")) (lead v ++ decimal v) (hex (digits_at k) v))

-- the s of a plural
unfoldable pub plural : ℕ → List ℕ
plural n = pick (eqb n 1) [] (ascii "s")

-- blanks behind n columns: to column 31, and two at least
abbrev pub gap : ℕ → ℕ
gap n = max (31 - n) 2

-- ---- a form half filled: the row so far, the lines of the page still to pass, whether the form's line is over, whether % came last,
-- the number put last and those to come

abbrev pub with_row : Row → Filling → Filling
with_row r f =
    record { row = r; skip = f.skip; over = f.over; percent = false; last = f.last; a = f.a; b = f.b; c = f.c }

-- the piece of a letter: s the plural of the number put last, > the gap, any other the next number
unfoldable pub piece : ℕ → Filling → Filling
piece k f =
    pick (eqb k (letter "s")) (with_row (put f.row (plural f.last)) f)
    (pick (eqb k (letter ">")) (with_row (put f.row (blanks (gap f.row.length))) f)
    (record { row = put f.row (number_text k f.a); skip = f.skip; over = f.over; percent = false; last = f.a; a = f.b; b = f.c; c = 0 }))

abbrev pub opened : Filling → Filling
opened f = record { row = f.row; skip = f.skip; over = f.over; percent = true; last = f.last; a = f.a; b = f.b; c = f.c }

-- a line's end: one line less to pass, or the form's is over
unfoldable pub ended : Filling → Filling
ended f =
    pick (eqb f.skip 0)
    (record { row = f.row; skip = 0; over = true; percent = f.percent; last = f.last; a = f.a; b = f.b; c = f.c })
    (record { row = f.row; skip = f.skip - 1; over = f.over; percent = f.percent; last = f.last; a = f.a; b = f.b; c = f.c })

-- a byte of the form
unfoldable pub formed : Filling → ℕ → Filling
formed f x = pick f.percent (piece x f) (pick (eqb x (letter "%")) (opened f) (with_row (push f.row x) f))

-- a byte of the page
unfoldable pub taken : Filling → ℕ → Filling
taken f x = pick f.over f (pick (eqb x 0x0A) (ended f) (pick (eqb f.skip 0) (formed f x) f))

unfoldable pub fills : Filling → List ℕ → Filling
fills f [] = f
fills f (x ∷ t) = fills (taken f x) t

abbrev pub begun : Row → ℕ → ℕ → ℕ → ℕ → Filling
begun r n a b c = record { row = r; skip = n; over = false; percent = false; last = 0; a = a; b = b; c = c }

-- line n of a page behind a row, with three numbers
unfoldable pub filled : List ℕ → Row → ℕ → ℕ → ℕ → ℕ → Row
filled page r n a b c = (fills (begun r n a b c) page).row
