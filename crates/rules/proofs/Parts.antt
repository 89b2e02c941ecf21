-- The part: an event gives the same of either part, but for the part and, after power-up and after reset, IOC; so no event changes it. And the cases of
-- both parts. Assumes nothing.
use Prim.Native.Nat.{ℕ}
use mathlib.Core.Path.{◌≡◌, refl, sym, ap, ◌∙◌, subst}
use mathlib.Core.Bool.{Bool, true, false, ◌&&◌, beq}
use mathlib.Core.List.{List, [], ◌∷◌}
use lib.Dec.{eqb, ltb}
use borrow.Author.Tests.{eqb-true}
use Rattle.rules.specs.declared.Cell.{Cell}
use Rattle.rules.specs.declared.Chip.{Chip}
use Rattle.rules.specs.declared.Kind.{Kind}
use Rattle.rules.specs.declared.Rest.{Rest}
use Rattle.rules.specs.declared.Short.{Short}
use Rattle.rules.specs.declared.Source.{Source}
use Rattle.rules.specs.declared.Tear.{Tear}
use Rattle.rules.specs.declared.Work.{Work}
use Rattle.rules.specs.Words.{pick, one_of, every, Lent, written, unlent, bit, end, ◌next◌, holds}
use Rattle.rules.specs.Blocks.{wide, blocks, seek, block_of, block_at, write_locked, read_locked}
use Rattle.rules.specs.Works.{all, finish}
use Rattle.rules.specs.Frames.{frames, find, form_of, opcode}
use Rattle.rules.specs.Bursts.{burst_place}
use Rattle.rules.specs.Reading.{silent, reply, place_cell, shown}
use Rattle.rules.specs.Programs.{blank, fill, page_buffer, security_buffer, reaches, reaches_first}
use Rattle.rules.specs.Fields.{chip_of, with_enable, with_ioc, with_ba}
use Rattle.rules.specs.Commands.{power_up_ioc, after_reset, act, buffer_after, settled, settled_first, rested, buffer_rested, after_cut}
use Rattle.rules.specs.WellFormed.{well_formed}
use Rattle.rules.specs.Numbers.{State, Frame, first, command_tests, frame_tests, completion_tests, cut_tests}
use Rattle.rules.specs.Machine.{Outcome, worked_array_lem, worked_security_lem, frame_chip, stops, frame_cell_lem, frame_reply, frame_marks, frame, completed_chip_lem, completion, cut_chip_lem, power_cut, Event, sends, completes, cuts, step, left, run}
use Rattle.rules.specs.Promises.{state_of}
use Rattle.rules.specs.Demands.{events_of}
use Rattle.rules.specs.Parts.{of_part, powers_up, outcome_of_part, PartTells, IocPowersUp, PartStays, AllOfPart, PartKept, PartKeptOfCode, parts, PartsHold}
use Rattle.rules.proofs.Bools.{same_flag}
use Rattle.rules.proofs.Rows.{by_rows}
use Rattle.rules.proofs.Numbers.{accepted}
use Rattle.rules.proofs.Refusals.{framed, completed, cut}
use Rattle.rules.proofs.Runs.{demand_2}
use Rattle.rules.proofs.Quick.{read_chip, quick, onward, quick_after, quick_last}
use Rattle.rules.proofs.Cases.{case_holds_lem, failing_of, failing, NoneFails, sections_hold}

-- ---- 99, and no other, is the reset

unfoldable pub is_reset : Kind → Bool
is_reset (Kind.Show s) = false
is_reset (Kind.Begin l) = false
is_reset (Kind.Do Short.Nothing) = false
is_reset (Kind.Do Short.EnableReset) = false
is_reset (Kind.Do Short.Reset) = true
is_reset (Kind.Do Short.ToSqi) = false
is_reset (Kind.Do Short.ToSpi) = false
is_reset (Kind.Do Short.SetWel) = false
is_reset (Kind.Do Short.ClearWel) = false
is_reset (Kind.Do Short.WriteProtection) = false
is_reset (Kind.Do Short.LockDown) = false
is_reset (Kind.Do Short.ClearLocks) = false
is_reset (Kind.Do Short.Suspend) = false
is_reset (Kind.Do Short.Resume) = false
is_reset (Kind.Do Short.SetBurst) = false

each_row : every (λ r. beq (eqb r.opcode 0x99) (is_reset r.form.kind)) frames ≡ true
unfolding frames is_reset
each_row = refl

pub is_99 : (s : State) (f : Frame) → (frame s f).number ≡ 0 → eqb (opcode f.sent) 0x99 ≡ is_reset (form_of (opcode f.sent)).kind
is_99 s f e =
    same_flag (eqb (opcode f.sent) 0x99) (is_reset (form_of (opcode f.sent)).kind)
    (by_rows (λ o f. beq (eqb o 0x99) (is_reset f.kind)) each_row s.chip.rest.flags.sqi (opcode f.sent) (accepted s f e).is_listed)

-- ---- an event of either part

module _ (p : Bool) where
  -- what work sets
  settles : (w : Work) (r : Rest) → settled w (with_ba p r) ≡ with_ba p (settled w r)
  settles Work.Nothing r = refl
  settles (Work.EraseSector n) r = refl
  settles (Work.EraseBlock n) r = refl
  settles Work.EraseArray r = refl
  settles (Work.ProgramPage n) r = refl
  settles (Work.ProgramSecurity n) r = refl
  settles Work.LockSecurity r = refl
  settles (Work.WriteConfiguration i w) r = refl
  settles (Work.AddPermanent v) r = refl

  stopped_same : (k : ℕ) (r : Rest) → settled_first k (with_ba p r) ≡ with_ba p (settled_first k r)
  stopped_same k r = go (ltb 0 k)
    where
      go : (b : Bool) → pick b (settled r.works.running (with_ba p r)) (with_ba p r) ≡ with_ba p (pick b (settled r.works.running r) r)
      go true = settles r.works.running r
      go false = refl

  -- the record after a command
  acts : (k : Kind) (sent : List ℕ) (n : ℕ) (r : Rest) → act k sent n (with_ba p r) ≡ with_ba p (with_ioc (pick (is_reset k) (power_up_ioc p) (act k sent n r).flags.ioc) (act k sent n r))
  unfolding is_reset
  acts (Kind.Show s) sent n r = refl
  acts (Kind.Begin l) sent n r = refl
  acts (Kind.Do Short.Nothing) sent n r = refl
  acts (Kind.Do Short.EnableReset) sent n r = refl
  acts (Kind.Do Short.Reset) sent n r = ap after_reset (stopped_same n r)
  acts (Kind.Do Short.ToSqi) sent n r = refl
  acts (Kind.Do Short.ToSpi) sent n r = refl
  acts (Kind.Do Short.SetWel) sent n r = refl
  acts (Kind.Do Short.ClearWel) sent n r = refl
  acts (Kind.Do Short.WriteProtection) sent n r = refl
  acts (Kind.Do Short.LockDown) sent n r = refl
  acts (Kind.Do Short.ClearLocks) sent n r = refl
  acts (Kind.Do Short.Suspend) sent n r = refl
  acts (Kind.Do Short.Resume) sent n r = refl
  acts (Kind.Do Short.SetBurst) sent n r = refl

  -- a reply
  replies_same : (k : Kind) (r : Rest) (array security : Lent) (sent : List ℕ) (i : ℕ) → reply k (with_ba p r) array security sent i ≡ reply k r array security sent i
  unfolding shown
  replies_same (Kind.Show Source.Status) r array security sent i = refl
  replies_same (Kind.Show Source.Configuration) r array security sent i = refl
  replies_same (Kind.Show Source.Protection) r array security sent i = refl
  replies_same (Kind.Show Source.Identity) r array security sent i = refl
  replies_same (Kind.Show Source.Array) r array security sent i = refl
  replies_same (Kind.Show Source.ArrayBurst) r array security sent i = refl
  replies_same (Kind.Show Source.Security) r array security sent i = refl
  replies_same (Kind.Begin l) r array security sent i = refl
  replies_same (Kind.Do s) r array security sent i = refl

  -- a frame, by the number that it gets
  frame_chip_lem : (n : ℕ) (s : State) (f : Frame) → (n ≡ 0 → eqb (opcode f.sent) 0x99 ≡ is_reset (form_of (opcode f.sent)).kind)
      → frame_chip n (of_part p s).chip f
      ≡ (let c = frame_chip n s.chip f in
      chip_of c.buffer (with_ba p (with_ioc (pick (eqb n 0 && eqb (opcode f.sent) 0x99) (power_up_ioc p) c.rest.flags.ioc) c.rest)))
  unfolding frame_chip
  frame_chip_lem n s f h = go (eqb n 0) (one_of n (1 ∷ 2 ∷ [])) (λ e. h (eqb-true n 0 e))
    where
      k : Kind
      k = (form_of (opcode f.sent)).kind

      r : Rest
      r = with_enable false s.chip.rest

      m : ℕ
      m = f.circumstances.tear.k

      after : Bool → Bool → Chip
      after x y = pick x (chip_of (buffer_after k f.sent s.chip.buffer) (act k f.sent m r)) (pick y s.chip (chip_of s.chip.buffer r))

      go : (x y : Bool) → (x ≡ true → eqb (opcode f.sent) 0x99 ≡ is_reset k)
          → pick x (chip_of (buffer_after k f.sent s.chip.buffer) (act k f.sent m (with_ba p r))) (pick y (chip_of s.chip.buffer (with_ba p s.chip.rest)) (chip_of s.chip.buffer (with_ba p r)))
          ≡ chip_of (after x y).buffer (with_ba p (with_ioc (pick (x && eqb (opcode f.sent) 0x99) (power_up_ioc p) (after x y).rest.flags.ioc) (after x y).rest))
      go true y e = rw (e refl) (ap (chip_of (buffer_after k f.sent s.chip.buffer)) (acts k f.sent m r))
      go false true e = refl
      go false false e = refl

  frame_cell : (n : ℕ) (s : State) (sent : List ℕ) (i : ℕ) → frame_cell_lem n (of_part p s) sent i ≡ frame_cell_lem n s sent i
  unfolding frame_cell_lem
  frame_cell n s sent i = ap (λ (c : Cell). pick (eqb n 0) c silent) (replies_same (form_of (opcode sent)).kind s.chip.rest s.array s.security sent i)

  frame_of_lem : (s : State) (f : Frame) → frame (of_part p s) f ≡ outcome_of_part p (powers_up s (sends f)) (frame s f)
  unfolding step frame frame_tests command_tests well_formed worked_array_lem worked_security_lem frame_reply frame_marks
  frame_of_lem s f =
      let n = first (frame_tests s f) in
      λ j.
      record {
        number = n;
        chip = frame_chip_lem n s f (is_99 s f) j;
        array = worked_array_lem (stops n f.sent) f.circumstances.tear s;
        security = worked_security_lem (stops n f.sent) f.circumstances.tear s;
        reply = pick (eqb n 1) f.reply (written f.reply.size (λ i. (frame_cell n s f.sent i j).byte));
        marks = pick (eqb n 1) f.marks (written f.marks.size (λ i. (frame_cell n s f.sent i j).mark));
      }

  -- a completion
  completed_chip : (n : ℕ) (c : Chip) → completed_chip_lem n (chip_of c.buffer (with_ba p c.rest)) ≡ chip_of (completed_chip_lem n c).buffer (with_ba p (completed_chip_lem n c).rest)
  unfolding completed_chip_lem
  completed_chip n c = go (eqb n 0)
    where
      b : List ℕ
      b = buffer_rested c.rest.works.suspended c.buffer

      w : Work
      w = c.rest.works.running

      after : Bool → Chip
      after x = pick x (chip_of b (rested (settled w c.rest))) c

      go : (x : Bool) → pick x (chip_of b (rested (settled w (with_ba p c.rest)))) (chip_of c.buffer (with_ba p c.rest)) ≡ chip_of (after x).buffer (with_ba p (after x).rest)
      go true = ap (λ (r : Rest). chip_of b (rested r)) (settles w c.rest)
      go false = refl

  completion_of : (s : State) → completion (of_part p s) ≡ outcome_of_part p false (completion s)
  unfolding completion completion_tests well_formed worked_array_lem worked_security_lem
  completion_of s =
      let n = first (completion_tests s) in
      λ j.
      record {
        number = n;
        chip = completed_chip n s.chip j;
        array = worked_array_lem (eqb n 0) all s;
        security = worked_security_lem (eqb n 0) all s;
        reply = unlent;
        marks = unlent;
      }

  -- a power cut
  cut_chip : (n k : ℕ) (c : Chip)
      → cut_chip_lem n k (chip_of c.buffer (with_ba p c.rest))
      ≡ (let d = cut_chip_lem n k c in chip_of d.buffer (with_ba p (with_ioc (pick (eqb n 0) (power_up_ioc p) d.rest.flags.ioc) d.rest)))
  unfolding cut_chip_lem
  cut_chip n k c = go (eqb n 0)
    where
      after : Bool → Chip
      after x = pick x (chip_of blank (after_cut (settled_first k c.rest))) c

      go : (x : Bool) → pick x (chip_of blank (after_cut (settled_first k (with_ba p c.rest)))) (chip_of c.buffer (with_ba p c.rest))
          ≡ chip_of (after x).buffer (with_ba p (with_ioc (pick x (power_up_ioc p) (after x).rest.flags.ioc) (after x).rest))
      go true = ap (λ (r : Rest). chip_of blank (after_cut r)) (stopped_same k c.rest)
      go false = refl

  cut_of : (s : State) (t : Tear) → power_cut (of_part p s) t ≡ outcome_of_part p (powers_up s (cuts t)) (power_cut s t)
  unfolding step power_cut cut_tests well_formed worked_array_lem worked_security_lem
  cut_of s t =
      let n = first (cut_tests s) in
      λ j.
      record {
        number = n;
        chip = cut_chip n t.k s.chip j;
        array = worked_array_lem (eqb n 0) t s;
        security = worked_security_lem (eqb n 0) t s;
        reply = unlent;
        marks = unlent;
      }

-- ---- the laws

pub part_tells : PartTells
unfolding step
part_tells p s (sends f) = frame_of_lem p s f
part_tells p s completes = completion_of p s
part_tells p s (cuts t) = cut_of p s t

-- of the part that it is, nothing is changed
own_part : (s : State) (e : Event) → step s e ≡ outcome_of_part s.chip.rest.flags.ba (powers_up s e) (step s e)
own_part s e = part_tells s.chip.rest.flags.ba s e

pub ioc_powers_up : IocPowersUp
ioc_powers_up s e h = ap (λ (o : Outcome). o.chip.rest.flags.ioc) (own_part s e) ∙ ap (λ (x : Bool). pick x (power_up_ioc s.chip.rest.flags.ba) (step s e).chip.rest.flags.ioc) h

pub part_stays : PartStays
part_stays s e = ap (λ (o : Outcome). o.chip.rest.flags.ba) (own_part s e)

kept : (p : Bool) (s : State) (es : List Event) → s.chip.rest.flags.ba ≡ p → AllOfPart p (run s es)
unfolding run
kept p s [] h = tt
kept p s (e ∷ es) h = let k = part_stays s e ∙ h in (k, kept p (left (step s e)) es k)

pub part_kept : PartKept
part_kept s es = kept s.chip.rest.flags.ba s es refl

pub part_kept_of_code : PartKeptOfCode
part_kept_of_code b es gs h = subst (AllOfPart b.chip.rest.flags.ba) (sym (demand_2 b es gs h).machine) (part_kept (state_of b) (events_of es))

-- ---- the cases

of_parts : NoneFails parts
unfolding parts bit holds wide blocks seek block_of block_at write_locked read_locked finish frames find form_of burst_place place_cell shown blank fill page_buffer security_buffer reaches reaches_first command_tests frame_chip frame_cell_lem frame_reply frame_marks worked_array_lem worked_security_lem completed_chip_lem cut_chip_lem framed completed cut quick read_chip onward quick_after quick_last case_holds_lem failing_of failing
of_parts =
    refl
    next refl
    next refl
    next refl
    next refl
    next refl
    next refl
    next refl
    next end

pub parts_hold : PartsHold
unfolding parts
parts_hold = record { hold = sections_hold of_parts; whole = refl }
