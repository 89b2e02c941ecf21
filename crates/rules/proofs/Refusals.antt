-- What an event leaves, by its number: 1 and 12 change nothing at all; 2 to 11 fill the reply with FF and the marks with 0, and nothing else
-- changes, except that 3 to 11 use up the reset enable. And the whole outcome of an event that is done. Assumes nothing.
use Prim.Native.Nat.{ℕ, ◌≤◌, ◌<◌}
use mathlib.Core.Path.{◌≡◌, ap, ◌∙◌}
use mathlib.Core.Bool.{Bool, false, ◌&&◌, ◌||◌}
use mathlib.Core.List.{[], ◌∷◌}
use native.Mathlib.Omega.{arith}
use lib.Dec.{eqb, ltb}
use borrow.Author.Tests.{ne_eqb}
use Rattle.rules.specs.declared.Tear.{Tear}
use Rattle.rules.specs.Words.{pick, one_of, written, unlent}
use Rattle.rules.specs.Works.{array_range, security_range, all, finish}
use Rattle.rules.specs.Frames.{form_of, opcode}
use Rattle.rules.specs.Programs.{blank}
use Rattle.rules.specs.Reading.{silent, reply}
use Rattle.rules.specs.Fields.{chip_of, with_enable}
use Rattle.rules.specs.Commands.{act, buffer_after, settled, rested, buffer_rested, after_cut}
use Rattle.rules.specs.Numbers.{State, Frame}
use Rattle.rules.specs.Machine.{Outcome, worked_array_lem, worked_security_lem, frame_chip, stops, frame_cell_lem, frame_reply, frame_marks, frame, completed_chip_lem, completion, cut_chip_lem, power_cut}

-- ---- outcomes by their number

-- of a frame
unfoldable pub framed : State → Frame → ℕ → Outcome
framed s f n =
    record {
      number = n;
      chip = frame_chip n s.chip f;
      array = worked_array_lem (stops n f.sent) f.circumstances.tear s;
      security = worked_security_lem (stops n f.sent) f.circumstances.tear s;
      reply = frame_reply n s f;
      marks = frame_marks n s f;
    }

-- of an event that finishes the running work: a completion all of it, a power cut as far as t says
unfoldable pub completed : State → ℕ → Outcome
completed s n =
    record {
      number = n;
      chip = completed_chip_lem n s.chip;
      array = worked_array_lem (eqb n 0) all s;
      security = worked_security_lem (eqb n 0) all s;
      reply = unlent;
      marks = unlent;
    }

unfoldable pub cut : State → Tear → ℕ → Outcome
cut s t n =
    record {
      number = n;
      chip = cut_chip_lem n t.k s.chip;
      array = worked_array_lem (eqb n 0) t s;
      security = worked_security_lem (eqb n 0) t s;
      reply = unlent;
      marks = unlent;
    }

-- ---- refused

-- a frame refused with 1
pub frame_refused_1 : (s : State) (f : Frame) → (frame s f).number ≡ 1
    → frame s f ≡ record { number = 1; chip = s.chip; array = s.array; security = s.security; reply = f.reply; marks = f.marks }
unfolding frame framed worked_array_lem worked_security_lem frame_chip frame_reply frame_marks
frame_refused_1 s f e = ap (framed s f) e

-- a frame refused with 2
pub frame_refused_2 : (s : State) (f : Frame) → (frame s f).number ≡ 2
    → frame s f
    ≡ record {
      number = 2;
      chip = s.chip;
      array = s.array;
      security = s.security;
      reply = written f.reply.size (λ i. 0xFF);
      marks = written f.marks.size (λ i. 0);
    }
unfolding frame framed worked_array_lem worked_security_lem frame_chip frame_reply frame_marks frame_cell_lem
frame_refused_2 s f e = ap (framed s f) e

-- a frame refused with a number from 3 on
pub frame_refused_more : (s : State) (f : Frame) (n : ℕ) → 3 ≤ n → (frame s f).number ≡ n
    → frame s f
    ≡ record {
      number = n;
      chip = chip_of s.chip.buffer (with_enable false s.chip.rest);
      array = s.array;
      security = s.security;
      reply = written f.reply.size (λ i. 0xFF);
      marks = written f.marks.size (λ i. 0);
    }
unfolding frame framed worked_array_lem worked_security_lem frame_chip frame_reply frame_marks frame_cell_lem
frame_refused_more s f n h e = ap (framed s f) e ∙ (λ i. by (none i) (one i) (two i))
  where
    none : Path Bool (eqb n 0) false
    none = ne_eqb n 0 (λ z. omega arith)

    one : Path Bool (eqb n 1) false
    one = ne_eqb n 1 (λ z. omega arith)

    two : Path Bool (eqb n 2) false
    two = ne_eqb n 2 (λ z. omega arith)

    -- by whether the number is 0, 1 or 2
    by : Bool → Bool → Bool → Outcome
    by is_0 is_1 is_2 =
        record {
          number = n;
          chip = pick is_0 (chip_of (buffer_after (form_of (opcode f.sent)).kind f.sent s.chip.buffer) (act (form_of (opcode f.sent)).kind f.sent f.circumstances.tear.k (with_enable false s.chip.rest))) (pick (is_1 || (is_2 || false)) s.chip (chip_of s.chip.buffer (with_enable false s.chip.rest)));
          array = worked_array_lem (is_0 && one_of (opcode f.sent) (0x99 ∷ [])) f.circumstances.tear s;
          security = worked_security_lem (is_0 && one_of (opcode f.sent) (0x99 ∷ [])) f.circumstances.tear s;
          reply = pick is_1 f.reply (written f.reply.size (λ i. (pick is_0 (reply (form_of (opcode f.sent)).kind s.chip.rest s.array s.security f.sent i) silent).byte));
          marks = pick is_1 f.marks (written f.marks.size (λ i. (pick is_0 (reply (form_of (opcode f.sent)).kind s.chip.rest s.array s.security f.sent i) silent).mark));
        }

-- a completion refused with 1 or 12
pub completion_refused : (s : State) (n : ℕ) → 0 < n → (completion s).number ≡ n
    → completion s ≡ record { number = n; chip = s.chip; array = s.array; security = s.security; reply = unlent; marks = unlent }
unfolding completion completed completed_chip_lem worked_array_lem worked_security_lem
completion_refused s n h e = ap (completed s) e ∙ rw (ne_eqb n 0 (λ z. omega arith))

-- a power cut refused with 1
pub cut_refused : (s : State) (t : Tear) (n : ℕ) → 0 < n → (power_cut s t).number ≡ n
    → power_cut s t ≡ record { number = n; chip = s.chip; array = s.array; security = s.security; reply = unlent; marks = unlent }
unfolding power_cut cut cut_chip_lem worked_array_lem worked_security_lem
cut_refused s t n h e = ap (cut s t) e ∙ rw (ne_eqb n 0 (λ z. omega arith))

-- ---- done

pub frame_done_whole : (s : State) (f : Frame) → (frame s f).number ≡ 0
    → frame s f
    ≡ record {
      number = 0;
      chip = chip_of (buffer_after (form_of (opcode f.sent)).kind f.sent s.chip.buffer) (act (form_of (opcode f.sent)).kind f.sent f.circumstances.tear.k (with_enable false s.chip.rest));
      array = worked_array_lem (stops 0 f.sent) f.circumstances.tear s;
      security = worked_security_lem (stops 0 f.sent) f.circumstances.tear s;
      reply = written f.reply.size (λ i. (reply (form_of (opcode f.sent)).kind s.chip.rest s.array s.security f.sent i).byte);
      marks = written f.marks.size (λ i. (reply (form_of (opcode f.sent)).kind s.chip.rest s.array s.security f.sent i).mark);
    }
unfolding frame framed frame_chip frame_reply frame_marks frame_cell_lem
frame_done_whole s f e = ap (framed s f) e

pub completion_done_whole : (s : State) → (completion s).number ≡ 0
    → completion s
    ≡ record {
      number = 0;
      chip = chip_of (buffer_rested s.chip.rest.works.suspended s.chip.buffer) (rested (settled s.chip.rest.works.running s.chip.rest));
      array = finish s.chip.rest.works.running (array_range s.chip.rest.works.running) s.chip.buffer all s.array;
      security = finish s.chip.rest.works.running (security_range s.chip.rest.works.running) s.chip.buffer all s.security;
      reply = unlent;
      marks = unlent;
    }
unfolding completion completed completed_chip_lem worked_array_lem worked_security_lem
completion_done_whole s e = ap (completed s) e

pub cut_done_whole : (s : State) (t : Tear) → (power_cut s t).number ≡ 0
    → power_cut s t
    ≡ record {
      number = 0;
      chip = chip_of blank (after_cut (pick (ltb 0 t.k) (settled s.chip.rest.works.running s.chip.rest) s.chip.rest));
      array = finish s.chip.rest.works.running (array_range s.chip.rest.works.running) s.chip.buffer t s.array;
      security = finish s.chip.rest.works.running (security_range s.chip.rest.works.running) s.chip.buffer t s.security;
      reply = unlent;
      marks = unlent;
    }
unfolding power_cut cut cut_chip_lem worked_array_lem worked_security_lem
cut_done_whole s t e = ap (cut s t) e
