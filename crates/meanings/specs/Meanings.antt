-- The meaning of each number, in ASCII: a short text from 01, "Numbers the bench gives back", and from 02.
use Rattle.std.specs.Prelude.{ℕ, ◌≡◌, List, [], ◌++◌, eqb, length, take, drop}
use Rattle.rules.specs.Words.{pick}
use Rattle.rules.specs.Texts.{ascii}

-- the text of a number; none for a number that the bench does not give
unfoldable pub meaning : ℕ → List ℕ
meaning n =
    pick (eqb n 0) (ascii "done")
    (pick (eqb n 1) (ascii "record not well-formed, or a length outside \"Sizes\"")
    (pick (eqb n 2) (ascii "frame empty")
    (pick (eqb n 3) (ascii "opcode not listed, or not in this protocol")
    (pick (eqb n 4) (ascii "length not as listed")
    (pick (eqb n 5) (ascii "BUSY, and opcode not 05, 66, 99, B0")
    (pick (eqb n 6) (ascii "99 with no enable")
    (pick (eqb n 7) (ascii "6B, 32 or EC with IOC 0")
    (pick (eqb n 8) (ascii "suspension rule")
    (pick (eqb n 9) (ascii "WEL needed and 0")
    (pick (eqb n 10) (ascii "42 or 98 with WPLD 1; A5 or 85 with SEC 1; A5 to places 0 to 7")
    (pick (eqb n 11) (ascii "20, D8, 02, 32 in a write-locked block; C7 with a write lock set")
    (pick (eqb n 12) (ascii "completion with nothing running")
    (pick (eqb n 13) (ascii "a C0 byte above 03")
    (pick (eqb n 14) (ascii "a busy or suspended chip")
    (pick (eqb n 15) (ascii "a wrong mark, sum, page number, code or register")
    (pick (eqb n 16) (ascii "no empty slot")
    (pick (eqb n 17) (ascii "no live slot of that number")
    (pick (eqb n 18) (ascii "polls used up, the write still runs")
    []))))))))))))))))))

-- as many bytes of the text as fit, over the first of those lent; the others stay
unfoldable pub over : List ℕ → List ℕ → List ℕ
over t lent = take (length lent) t ++ drop (length t) lent

pub record MeaningBytes (n : ℕ) (lent : List ℕ) (r : ℕ) (lent' : List ℕ) : Type 0 where
  pub size : r ≡ length (meaning n)
  pub text : lent' ≡ over (meaning n) lent
