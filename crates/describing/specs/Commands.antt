-- A frame's command by its name, its operands, and the answer.
use Rattle.std.specs.Prelude.{ℕ, suc, ◌+◌, ◌-◌, Bool, ◌&&◌, ◌||◌, List, [], ◌∷◌, eqb, ltb, leb, length, get_or}
use Rattle.rules.specs.declared.Kind.{Kind}
use Rattle.rules.specs.declared.Kind.TheVariants.{Show, Begin, Do}
use Rattle.rules.specs.Words.{pick}
use Rattle.rules.specs.Frames as frames
use Rattle.rules.specs.Frames.{sent_byte, opcode, address, security_address, six, form_of}
use Rattle.writing.specs.declared.Row.{Row}
use Rattle.writing.specs.Rows.{put}
use Rattle.byte_text.specs.Bytes.{part}
use Rattle.page.specs.Page.{form}

-- the opcodes of the table of frames, in its order
unfoldable pub opcodes_of : List frames.Row → List ℕ
opcodes_of [] = []
opcodes_of (r ∷ rs) = r.opcode ∷ opcodes_of rs

unfoldable pub opcodes : List ℕ
opcodes = opcodes_of frames.frames

-- the place of a number in a list, the list's size where it is not there
unfoldable pub place_of : List ℕ → ℕ → ℕ
place_of [] o = 0
place_of (x ∷ xs) o = pick (eqb o x) 0 (suc (place_of xs o))

-- for each opcode of the table what is told of its operands: 0 nothing, 1 an array address, 2 that and how many bytes, 3 a register, 4 a Security ID
-- address, 5 that and how many bytes, 6 the configuration, 7 the burst's byte
unfoldable pub operands : List ℕ
operands =
    0 ∷ 0 ∷ 0 ∷ 0 ∷ 0 ∷ 0 ∷ 0 ∷ 0 ∷ 0 ∷ 0 ∷ 1 ∷ 1 ∷ 1 ∷ 4 ∷ 0 ∷ 0 ∷ 1 ∷ 1 ∷ 0 ∷ 2 ∷ 2 ∷ 5 ∷ 0 ∷ 6 ∷ 3 ∷ 3 ∷ 0 ∷ 0 ∷ 0 ∷ 0 ∷ 7 ∷ 1 ∷ 1 ∷ []

unfoldable pub operand_on : ℕ → List ℕ → Row → Row
operand_on k sent r =
    pick (eqb k 1) (form 139 (address sent) 0 0 r)
    (pick (eqb k 2) (form 134 (address sent) (length sent - 4) 0 r)
    (pick (eqb k 3) (form 135 (six sent) 0 0 r)
    (pick (eqb k 4) (form 136 (security_address sent) 0 0 r)
    (pick (eqb k 5) (form 137 (security_address sent) (length sent - 3) 0 r)
    (pick (eqb k 6) (form 138 (sent_byte sent 2) 0 0 r)
    (pick (eqb k 7) (form 138 (sent_byte sent 1) 0 0 r) r))))))

-- the name; and the operands of a frame whose length is right
unfoldable pub name_on : List ℕ → Row → Row
name_on sent r = form (100 + place_of opcodes (opcode sent)) (opcode sent) 0 0 r

unfoldable pub command_on : List ℕ → ℕ → Row → Row
command_on sent n r =
    pick (eqb n 0 || ltb 4 n) (operand_on (get_or operands (place_of opcodes (opcode sent)) 0) sent (name_on sent r)) (name_on sent r)

-- ---- the answer

-- 1 of a command that replies, 2 of one that runs until completion
abbrev pub sort : Kind → ℕ
sort (Show s) = 1
sort (Begin l) = 2
sort (Do s) = 0

-- a reply stands on the row where the command replies, and it has at most eight bytes
unfoldable pub on_row : Kind → ℕ → Bool
on_row k n = eqb (sort k) 1 && (ltb 0 n && leb n 8)

unfoldable pub done_on : Kind → List ℕ → List ℕ → Row → Row
done_on k reply marks r =
    pick (eqb (sort k) 2) (form 3 0 0 0 r) (pick (on_row k (length reply)) (put (form 5 0 0 0 r) (part reply marks 0 8)) (form 2 0 0 0 r))

-- an empty frame has no command
unfoldable pub answer_on : List ℕ → ℕ → List ℕ → List ℕ → Row → Row
answer_on sent n reply marks r =
    pick (eqb n 0) (done_on (form_of (opcode sent)).kind reply marks (command_on sent n r))
    (pick (eqb (length sent) 0) (form 21 n 0 0 r) (form 4 n 0 0 (command_on sent n r)))
