-- The rows of a script: numbered by its lines, or below such a row.
use Rattle.std.specs.Prelude.{ℕ, ◌+◌, ◌-◌, ◌*◌, min, Bool, ◌&&◌, List, eqb, ltb, leb, length}
use Rattle.rules.specs.declared.Work.{Work}
use Rattle.rules.specs.Words.{pick}
use Rattle.rules.specs.Works.{is_nothing}
use Rattle.writing.specs.declared.Row.{Row}
use Rattle.writing.specs.Rows.{blank, put, blanks}
use Rattle.byte_text.specs.Bytes.{within, bytes, part, letters}
use Rattle.page.specs.Page.{form}
use Rattle.describing.specs.Works.{told, work, cut_after}

-- form n behind the script's line, or below a row that has it
abbrev pub numbered : ℕ → ℕ → ℕ → ℕ → ℕ → Row
numbered line n a b c = form n a b c (form 0 line 0 0 blank)

abbrev pub below : ℕ → ℕ → ℕ → ℕ → Row
below n a b c = form n a b c (form 1 0 0 0 blank)

-- which part the chip is (W-204): BA (98) or the old one
unfoldable pub part_on : Bool → Row → Row
part_on ba r = pick ba (form 98 0 0 0 r) (form 97 0 0 0 r)

-- ---- a frame

-- a script's count of bytes stops at 65,537, one more than a frame and a reply can have
unfoldable pub count_on : ℕ → ℕ → Row → Row
count_on k n r = pick (ltb 65536 n) (form (k + 1) 0 0 0 r) (form k n 0 0 r)

-- all its bytes where they are at most eight, else four and how many there are
unfoldable pub bytes_on : List ℕ → Row → Row
bytes_on sent r =
    pick (leb (length sent) 8) (put r (bytes sent 0 (within (length sent) 0 8)))
    (count_on 8 (length sent) (put r (bytes sent 0 (within (length sent) 0 4))))

-- the reply bytes that are wanted, if any; an empty frame always says how many
unfoldable pub sent_row : ℕ → List ℕ → ℕ → Row
sent_row line sent wanted =
    pick (eqb wanted 0 && ltb 0 (length sent)) (bytes_on sent (form 206 line 0 0 blank)) (count_on 10 wanted (bytes_on sent (form 206 line 0 0 blank)))

-- the answer stands beside it where there is room, else below
unfoldable pub fits : Row → Bool
fits r = leb r.length 29

-- ---- work that ends

-- a completion: what ended
unfoldable pub ended_on : Work → ℕ → Row → Row
ended_on w n r = pick (eqb n 0) (form 16 0 0 0 (work (told w) r)) (form 21 n 0 0 r)

-- a power cut after k bytes
unfoldable pub cut_on : Work → ℕ → ℕ → Row → Row
cut_on w k n r =
    pick (eqb n 0) (pick (is_nothing w) (form 20 0 0 0 r) (cut_after (told w) k (work (told w) r))) (form 21 n 0 0 r)

-- ---- bytes

-- sixteen bytes of a long reply, from a place on
abbrev pub reply_row : ℕ → List ℕ → List ℕ → Row
reply_row place reply marks = put (below 195 place 0 0) (part reply marks place 16)

-- at most eight expected bytes from a place on; ?? where any byte is allowed
abbrev pub expected_row : ℕ → List ℕ → List ℕ → Row
expected_row place expected known = put (below 182 place 0 0) (part expected known place 8)

-- as much of a remark, from a place on, as a row has room for behind its #
abbrev pub remark_row : List ℕ → ℕ → Row
remark_row text from = put (form 23 0 0 0 blank) (letters text from (within (length text) from 79))

-- how many bytes a row of a dump shows: at most n, at most sixteen, and none past the end
abbrev pub shown : List ℕ → ℕ → ℕ → ℕ
shown memory place n = within (length memory) place (min n 16)

unfoldable pub dump_row : ℕ → List ℕ → ℕ → Row
dump_row place memory n =
    form 199 0 0 0
    (put (form 198 0 0 0 (put (put (form 197 place 0 0 blank) (bytes memory place (shown memory place n))) (blanks (3 * (16 - shown memory place n)))))
    (letters memory place (shown memory place n)))

-- ---- a wrong line

abbrev pub quoted : List ℕ → ℕ → Row → Row
quoted word n r = put (form 174 0 0 0 r) (letters word 0 (within (length word) 0 n))

-- the word in quotes, two dots where not all of it is shown, and its column; a line that ended too early has no word
unfoldable pub word_on : List ℕ → ℕ → ℕ → Row → Row
word_on word n column r =
    pick (eqb n 0) (form 173 0 0 0 r) (form 176 column 0 0 (pick (leb n 24) (quoted word n r) (form 175 0 0 0 (quoted word n r))))
