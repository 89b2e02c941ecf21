-- The command machine: a frame, a completion, a power cut, and runs of them; 02, W-205: a reset and a power cut in the middle of work.
use Rattle.std.specs.Prelude.{ℕ, Bool, false, ◌&&◌, List, [], ◌∷◌, eqb}
use Rattle.rules.specs.declared.Cell.{Cell}
use Rattle.rules.specs.declared.Chip.{Chip}
use Rattle.rules.specs.declared.Tear.{Tear}
use Rattle.rules.specs.Words.{pick, one_of, Lent, written, unlent}
use Rattle.rules.specs.Works.{array_range, security_range, all, finish}
use Rattle.rules.specs.Frames.{form_of, opcode}
use Rattle.rules.specs.Programs.{blank}
use Rattle.rules.specs.Reading.{silent, reply}
use Rattle.rules.specs.Fields.{chip_of, with_enable}
use Rattle.rules.specs.Commands.{act, buffer_after, settled_first, rested, buffer_rested, after_cut}
use Rattle.rules.specs.Numbers.{State, Frame, first, frame_tests, completion_tests, cut_tests}

-- the whole of what an event gives back and leaves
pub record Outcome : Type 0 where
  pub number : ℕ
  pub chip : Chip
  pub array : Lent
  pub security : Lent
  pub reply : Lent
  pub marks : Lent

-- ---- the memories after an event that finishes the running work as far as t says, or that leaves it

unfoldable pub worked_array_lem : Bool → Tear → State → Lent
worked_array_lem finishes t s =
    let w = s.chip.rest.works.running in
    pick finishes (finish w (array_range w) s.chip.buffer t s.array) s.array

unfoldable pub worked_security_lem : Bool → Tear → State → Lent
worked_security_lem finishes t s =
    let w = s.chip.rest.works.running in
    pick finishes (finish w (security_range w) s.chip.buffer t s.security) s.security

-- ---- a frame, by the number n that it gets

-- every frame except one refused with 1 or 2 uses up the enable; a done one then acts
unfoldable pub frame_chip : ℕ → Chip → Frame → Chip
frame_chip n c f =
    let sent = f.sent in
    let kind = (form_of (opcode sent)).kind in
    let used = with_enable false c.rest in
    let acted = chip_of (buffer_after kind sent c.buffer) (act kind sent f.circumstances.tear.k used) in
    pick (eqb n 0) acted (pick (one_of n (1 ∷ 2 ∷ [])) c (chip_of c.buffer used))

-- an accepted 99 stops the running work; no other frame changes the two memories
abbrev pub stops : ℕ → List ℕ → Bool
stops n sent = eqb n 0 && one_of (opcode sent) (0x99 ∷ [])

-- byte i of the reply, with its mark: of a refused frame as of one without a reply
unfoldable pub frame_cell_lem : ℕ → State → List ℕ → ℕ → Cell
frame_cell_lem n s sent i =
    let answered = reply (form_of (opcode sent)).kind s.chip.rest s.array s.security sent i in
    pick (eqb n 0) answered silent

-- 1 changes nothing at all
unfoldable pub frame_reply : ℕ → State → Frame → Lent
frame_reply n s f = pick (eqb n 1) f.reply (written f.reply.size (λ i. (frame_cell_lem n s f.sent i).byte))

unfoldable pub frame_marks : ℕ → State → Frame → Lent
frame_marks n s f = pick (eqb n 1) f.marks (written f.marks.size (λ i. (frame_cell_lem n s f.sent i).mark))

unfoldable pub frame : State → Frame → Outcome
frame s f =
    let n = first (frame_tests s f) in
    record {
      number = n;
      chip = frame_chip n s.chip f;
      array = worked_array_lem (stops n f.sent) f.circumstances.tear s;
      security = worked_security_lem (stops n f.sent) f.circumstances.tear s;
      reply = frame_reply n s f;
      marks = frame_marks n s f;
    }

-- ---- a completion and a power cut, by the number n that they get: 1 and 12 change nothing at all

unfoldable pub completed_chip_lem : ℕ → Chip → Chip
completed_chip_lem n c =
    pick (eqb n 0) (chip_of (buffer_rested c.rest.works.suspended c.buffer) (rested (settled_first all.k c.rest))) c

unfoldable pub completion : State → Outcome
completion s =
    let n = first (completion_tests s) in
    record {
      number = n;
      chip = completed_chip_lem n s.chip;
      array = worked_array_lem (eqb n 0) all s;
      security = worked_security_lem (eqb n 0) all s;
      reply = unlent;
      marks = unlent;
    }

-- after a power cut comes power-up. Of the record k alone decides: m tears bytes of the memories
unfoldable pub cut_chip_lem : ℕ → ℕ → Chip → Chip
cut_chip_lem n k c = pick (eqb n 0) (chip_of blank (after_cut (settled_first k c.rest))) c

unfoldable pub power_cut : State → Tear → Outcome
power_cut s t =
    let n = first (cut_tests s) in
    record {
      number = n;
      chip = cut_chip_lem n t.k s.chip;
      array = worked_array_lem (eqb n 0) t s;
      security = worked_security_lem (eqb n 0) t s;
      reply = unlent;
      marks = unlent;
    }

-- ---- events and runs

pub data Event : Type 0 where
  sends : Frame → Event
  completes : Event
  cuts : Tear → Event

unfoldable pub step : State → Event → Outcome
step s (sends f) = frame s f
step s completes = completion s
step s (cuts t) = power_cut s t

abbrev pub left : Outcome → State
left o = record { chip = o.chip; array = o.array; security = o.security }

-- the outcome of each event of a run
unfoldable pub run : State → List Event → List Outcome
run s [] = []
run s (e ∷ es) = let o = step s e in o ∷ run (left o) es
