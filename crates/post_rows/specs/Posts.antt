-- The rows of a line with a file, by the parts of what is told of any line: its first row, the one below it, the number's words, and why. A row that is not told
-- is blank. That the number is not the expected one is told as for an event: crate reasons, `unmet_row`.
use Rattle.std.specs.Prelude.{ℕ, ◌+◌, min, Bool, true, false, not, ◌&&◌, ◌||◌, List, eqb, leb, length, Option, None, Some, is_some}
use Rattle.rules.specs.declared.Chip.{Chip}
use Rattle.rules.specs.declared.Works.{Works}
use Rattle.rules.specs.Words.{pick}
use Rattle.rules.specs.Works.{is_nothing}
use Rattle.script.specs.Lines.{line_of}
use Rattle.writing.specs.declared.Row.{Row}
use Rattle.writing.specs.Rows.{blank, put}
use Rattle.byte_text.specs.Bytes.{within, letters}
use Rattle.page.specs.Page.{form}
use Rattle.describing.specs.Works.{told, work}
use Rattle.why.specs.Why.{malformed_why}
use Rattle.rows.specs.Events.{numbered, below, part_on, fits}
use Rattle.ordering.specs.declared.Part.{Part}
use Rattle.ordering.specs.declared.Place.{Place}
use Rattle.fault_rows.specs.Faults.{length_row, fault_row}
use Rattle.raw_image.specs.declared.Difference.{Difference}
use Rattle.standing.specs.declared.Playing.{Playing}
use Rattle.standing.specs.declared.Post.{Post}
use Rattle.standing.specs.Benches.{front}
use Rattle.posting.specs.declared.Report.{Report}
use Rattle.posting.specs.declared.Trouble.{Trouble}
use Rattle.posting.specs.Posts.{post_of}

-- ---- the first row

-- "save ", "load ", "save raw ", "load raw ", "compare raw "
abbrev pub words_form : Post → ℕ
words_form Post.Save = 277
words_form Post.Load = 278
words_form Post.SaveRaw = 279
words_form Post.LoadRaw = 280
words_form Post.CompareRaw = 281

-- at most 54 bytes of the name, and two dots where there are more
unfoldable pub name_on : List ℕ → Row → Row
name_on name r =
    pick (leb (length name) 54) (put r (letters name 0 (within (length name) 0 54))) (form 175 0 0 0 (put r (letters name 0 (within (length name) 0 54))))

unfoldable pub left_row : ℕ → Post → List ℕ → Row
left_row line f name = name_on name (numbered line (words_form f) 0 0 0)

-- "cannot be opened, there is no such file" and the like
abbrev pub trouble_form : Trouble → ℕ
trouble_form Trouble.Missing = 286
trouble_form Trouble.Denied = 287
trouble_form Trouble.Unopened = 288
trouble_form Trouble.Unread = 289
trouble_form Trouble.Folderless = 290
trouble_form Trouble.Forbidden = 291
trouble_form Trouble.Unwritten = 292
trouble_form Trouble.Taken = 293

-- "same, so many bytes", or in how many it differs
abbrev pub compared_on : ℕ → Option Difference → Row → Row
compared_on n None r = form 284 n 0 0 r
compared_on n (Some d) r = form 285 d.count 0 0 r

-- "saved" (282) or "loaded", so many bytes; of an image that is loaded, which part it has
abbrev pub done_on : Post → Bool → ℕ → Option Difference → Row → Row
done_on Post.Save ba n d r = form 282 n 0 0 r
done_on Post.Load ba n d r = part_on ba (form 283 n 0 0 r)
done_on Post.SaveRaw ba n d r = form 282 n 0 0 r
done_on Post.LoadRaw ba n d r = form 283 n 0 0 r
done_on Post.CompareRaw ba n d r = compared_on n d r

-- what the system said; what was done; or `refused` and the number
abbrev pub trouble_or : Option Trouble → Row → Row → Row
trouble_or None r answer = answer
trouble_or (Some t) r answer = form (trouble_form t) 0 0 0 r

unfoldable pub answer_on : Post → Bool → ℕ → Report → Row → Row
answer_on f ba number report r =
    trouble_or report.trouble r (pick (eqb number 0) (done_on f ba report.length report.difference r) (form 21 number 0 0 r))

-- the answer stands beside the line where there is room, else below it
unfoldable pub head_row : ℕ → Post → Bool → ℕ → Report → List ℕ → Row
head_row line f ba number report name =
    pick (fits (left_row line f name)) (answer_on f ba number report (form 7 0 0 0 (left_row line f name))) (left_row line f name)

unfoldable pub second_row : ℕ → Post → Bool → ℕ → Report → List ℕ → Row
second_row line f ba number report name = pick (fits (left_row line f name)) blank (answer_on f ba number report (form 1 0 0 0 blank))

-- ---- the number's words

-- of 1 as for an event; of 14 and 15 those of 02
unfoldable pub number_form : ℕ → ℕ
number_form n = pick (eqb n 15) 276 (24 + min n 14)

unfoldable pub number_row : Option Trouble → ℕ → Row
number_row t n = pick (is_some t || eqb n 0) blank (below (number_form n) 0 0 0)

-- ---- why: of 1, what has another length, or which sentence of a well-formed record does not hold

abbrev pub is_raw : Post → Bool
is_raw Post.Save = false
is_raw Post.Load = false
is_raw Post.SaveRaw = true
is_raw Post.LoadRaw = true
is_raw Post.CompareRaw = true

abbrev pub saves : Post → Bool
saves Post.Save = true
saves Post.Load = false
saves Post.SaveRaw = true
saves Post.LoadRaw = false
saves Post.CompareRaw = false

-- of a raw file the Security ID does not count
abbrev pub lent_short : Bool → ℕ → ℕ → Bool
lent_short raw array security = not (eqb array 2097152) || (not raw && not (eqb security 2048))

unfoldable pub malformed_row : Post → ℕ → ℕ → Chip → ℕ → Row
malformed_row f array security before n =
    pick (saves f || lent_short (is_raw f) array security) (malformed_why array security 0 0 0 before (form 1 0 0 0 blank)) (length_row (is_raw f) n)

-- ---- of 14, what runs or is suspended

unfoldable pub work_row : Works → Row
work_row w =
    pick (is_nothing w.running) (form 310 0 0 0 (work (told w.suspended) (form 1 0 0 0 blank))) (form 60 0 0 0 (work (told w.running) (form 1 0 0 0 blank)))

-- ---- where it is done: the first byte that differs

abbrev pub difference_row : Option Difference → Row
difference_row None = blank
difference_row (Some d) = below 298 d.place d.file d.array

unfoldable pub why_row : Post → ℕ → ℕ → Chip → ℕ → Report → Row
why_row f array security before number report =
    pick (is_some report.trouble) blank
    (pick (eqb number 0) (difference_row report.difference)
    (pick (eqb number 1) (malformed_row f array security before report.length)
    (pick (eqb number 14) (work_row before.rest.works) (fault_row report.fault))))

-- ---- by the part

abbrev pub part_row : Part → Playing → Post → Report → List ℕ → Row
part_row Part.Head p f r name = head_row p.bench.line f p.bench.chip.rest.flags.ba p.number r name
part_row Part.Second p f r name = second_row p.bench.line f p.bench.chip.rest.flags.ba p.number r name
part_row Part.Number p f r name = number_row r.trouble p.number
part_row Part.Why p f r name = why_row f p.bench.array p.bench.security p.before p.number r
part_row other p f r name = blank

abbrev pub row_if : Option Post → Part → Playing → Report → List ℕ → Row
row_if None part p r name = blank
row_if (Some f) part p r name = part_row part p f r name

-- the name is what the line stored
abbrev pub row_of : Playing → Report → Place → List ℕ → Row
row_of p r at frame = row_if (post_of p) at.part p r (front (line_of p.reading).sent frame)
