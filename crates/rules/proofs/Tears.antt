-- W-205: what k and m decide, and what they do not; and its cases. Every event finishes the running work by one definition or leaves it, so that each law is one of
-- TornBytes, lifted to events. Assumes nothing.
use Prim.Native.Nat.{ℕ, ◌+◌, ◌-◌, ◌≤◌, min, max}
use mathlib.Core.Path.{◌≡◌, refl, sym, ap, ◌∙◌, subst}
use mathlib.Core.Bool.{Bool, true, false, not, ◌&&◌, ◌||◌, true≢false, false≢true}
use mathlib.Core.List.{List, [], ◌∷◌}
use native.Mathlib.Omega.{arith}
use lib.Dec.{eqb, ltb, leb}
use lib.ListN.{length}
use lib.Bits.{bit_and, and_self}
use borrow.Author.Tests.{eqb-true, eq-eqb, ne_eqb, lt-ltb, not-true, not-false}
use Rattle.rules.specs.declared.Chip.{Chip}
use Rattle.rules.specs.declared.Kind.{Kind}
use Rattle.rules.specs.declared.Range.{Range}
use Rattle.rules.specs.declared.Rest.{Rest}
use Rattle.rules.specs.declared.Short.{Short}
use Rattle.rules.specs.declared.Tear.{Tear}
use Rattle.rules.specs.declared.Work.{Work}
use Rattle.rules.specs.declared.Work.TheVariants.{Nothing, EraseSector, EraseBlock, EraseArray, ProgramPage, ProgramSecurity, LockSecurity, WriteConfiguration, AddPermanent}
use Rattle.rules.specs.Words.{bit, pick, one_of, end, ◌next◌, nowhere, holds, overlap, Lent, written, unlent}
use Rattle.rules.specs.Blocks.{wide, blocks, seek, block_of, block_at, write_locked, read_locked}
use Rattle.rules.specs.Works.{is_nothing, is_erase, is_program, array_range, security_range, stopped, tear_of, all, finish}
use Rattle.rules.specs.Registers.{busy, wse, wsp}
use Rattle.rules.specs.Frames.{frames, find, form_of, listed, length_right, opcode}
use Rattle.rules.specs.Reading.{place_cell, shown, reply}
use Rattle.rules.specs.Programs.{blank, fill, page_buffer, security_buffer, reaches, reaches_first}
use Rattle.rules.specs.Fields.{chip_of, with_enable}
use Rattle.rules.specs.Commands.{settled, settled_first, act, buffer_after, after_reset, after_cut}
use Rattle.rules.specs.WellFormed.{well_formed, beside_right}
use Rattle.rules.specs.Numbers.{State, Frame, state_right, frame_right, first, command_tests, frame_tests, completion_tests, cut_tests}
use Rattle.rules.specs.Machine.{worked_array_lem, worked_security_lem, frame_chip, stops, frame_cell_lem, frame_reply, frame_marks, frame, completed_chip_lem, completion, cut_chip_lem, power_cut, Event, sends, completes, cuts, step}
use Rattle.rules.specs.Tears.{running, with_tear, OfBytes, resets, ResetExactly, stops_work, FrameUnused, CutUnused, PastTheEnd, RangeAlone, FramesLeave, SuspendedStays, cut_of01, cleanly, CutAs01, ResetAs01, Clears, ProgramsClear, ErasesSet}
use Rattle.rules.specs.CasesOfTears.{tears, TearsHold}
use Rattle.rules.proofs.Bools.{and_split, and_both, or_left, or_none, same_test, never}
use Rattle.rules.proofs.Blocks.{holds_at}
use Rattle.rules.proofs.WellFormed.{nothing, well_of}
use Rattle.rules.proofs.Numbers.{frame_given, Accepted, accepted, accepted_right}
use Rattle.rules.proofs.Refusals.{framed, completed, cut, frame_done_whole}
use Rattle.rules.proofs.Effects.{finish_outside, reset_leaves}
use Rattle.rules.proofs.Parts.{is_reset, is_99}
use Rattle.rules.proofs.TornBytes.{finish_each, finish_same, finish_past, clean_finish, clean_none, stopped_clears, stopped_sets}
use Rattle.rules.proofs.Quick.{read_chip, quick, onward, quick_after, quick_last}
use Rattle.rules.proofs.Cases.{case_holds_lem, failing_of, failing, NoneFails, sections_hold}

in_nowhere : (a : ℕ) → holds nowhere a ≡ true → ⊥
in_nowhere a h = let g = holds_at nowhere a h in omega arith

-- ---- an event

module _ (s : State) where
  abbrev in_array : Tear → Lent
  in_array t = finish (running s) (array_range (running s)) s.chip.buffer t s.array

  abbrev inSecurity : Tear → Lent
  inSecurity t = finish (running s) (security_range (running s)) s.chip.buffer t s.security

  -- what holds of work that is finished as far as any t says, and of what is left, holds of every event
  module _ (P : Lent → Type 0) where
    worked_array : P s.array → ((t : Tear) → P (in_array t)) → (x : Bool) (t : Tear) → P (worked_array_lem x t s)
    unfolding worked_array_lem
    worked_array p q true t = q t
    worked_array p q false t = p

    worked_security : P s.security → ((t : Tear) → P (inSecurity t)) → (x : Bool) (t : Tear) → P (worked_security_lem x t s)
    unfolding worked_security_lem
    worked_security p q true t = q t
    worked_security p q false t = p

    event_array : P s.array → ((t : Tear) → P (in_array t)) → (e : Event) → P (step s e).array
    unfolding step frame completion power_cut
    event_array p q (sends f) = worked_array p q (stops (first (frame_tests s f)) f.sent) f.circumstances.tear
    event_array p q completes = worked_array p q (eqb (first (completion_tests s)) 0) all
    event_array p q (cuts t) = worked_array p q (eqb (first (cut_tests s)) 0) t

    event_security : P s.security → ((t : Tear) → P (inSecurity t)) → (e : Event) → P (step s e).security
    unfolding step frame completion power_cut
    event_security p q (sends f) = worked_security p q (stops (first (frame_tests s f)) f.sent) f.circumstances.tear
    event_security p q completes = worked_security p q (eqb (first (completion_tests s)) 0) all
    event_security p q (cuts t) = worked_security p q (eqb (first (cut_tests s)) 0) t

-- ---- an accepted 99

and_none : (a : Bool) → (a && false) ≡ false
and_none true = refl
and_none false = refl

one_byte : (q : Bool) (n : ℕ) → length_right q (form_of 0x99) n ≡ true → eqb n 1 ≡ true
unfolding form_of find frames
one_byte true n e = sym (or_none (eqb n 1)) ∙ e
one_byte false n e = sym (or_none (eqb n 1)) ∙ e

-- no other condition is of a 99
of_99 : (r : Rest) (sent : List ℕ) → length sent ≡ 1 → r.flags.enable ≡ true → Accepted r 0x99 sent
unfolding form_of find frames
of_99 r sent l e =
    record {
      is_listed = either r.flags.sqi;
      sized = sizes r.flags.sqi;
      calm = and_none (busy r);
      enabled = ap not e;
      wired = refl;
      four = refl;
      apart = rw (and_none (wse r), and_none (wsp r));
      latched = refl;
      opened = refl;
      bare = refl;
    }
  where
    either : (q : Bool) → listed q (form_of 0x99) ≡ true
    either true = refl
    either false = refl

    sizes : (q : Bool) → length_right q (form_of 0x99) (length sent) ≡ true
    sizes true = or_left (eqb (length sent) 1) false (eq-eqb (length sent) 1 l)
    sizes false = or_left (eqb (length sent) 1) false (eq-eqb (length sent) 1 l)

pub reset_exactly : ResetExactly
unfolding frame_tests command_tests
reset_exactly s f = same_test _ _ into from
  where
    into : stops (frame s f).number f.sent ≡ true → resets (state_right s) s.chip.rest f.sent f.reply.size f.marks.size ≡ true
    into e =
        let h = and_split (eqb (frame s f).number 0) _ e in
        let n = eqb-true (frame s f).number 0 h.0 in
        let o = sym (or_none (eqb (opcode f.sent) 0x99)) ∙ h.1 in
        let r = accepted_right s f n in
        let a = subst (λ (x : ℕ). Accepted s.chip.rest x f.sent) (eqb-true (opcode f.sent) 0x99 o) (accepted s f n) in
        and_both (and_both r.0 r.1) (and_both (and_both (one_byte s.chip.rest.flags.sqi (length f.sent) a.sized) o) (not-false _ a.enabled))

    from : resets (state_right s) s.chip.rest f.sent f.reply.size f.marks.size ≡ true → stops (frame s f).number f.sent ≡ true
    from e =
        let h = and_split (state_right s && frame_right f) _ e in
        let p = and_split _ s.chip.rest.flags.enable h.1 in
        let q = and_split (eqb (length f.sent) 1) (eqb (opcode f.sent) 0x99) p.0 in
        let l = eqb-true (length f.sent) 1 q.0 in
        let a = subst (λ (x : ℕ). Accepted s.chip.rest x f.sent) (sym (eqb-true (opcode f.sent) 0x99 q.1)) (of_99 s.chip.rest f.sent l p.1) in
        and_both
        (eq-eqb (frame s f).number 0
        ((frame_given s f).is_0.1 (ap not h.0, (ne_eqb (length f.sent) 0 (λ z. omega arith), (ap not a.is_listed, (ap not a.sized, (a.calm, (a.enabled, (a.wired, (a.four, (a.apart, (a.latched, (a.opened, (a.bare, tt))))))))))))))
        (or_left (eqb (opcode f.sent) 0x99) false q.1)

pub reset_accepted : (s : State) (f : Frame) → resets (state_right s) s.chip.rest f.sent f.reply.size f.marks.size ≡ true → (frame s f).number ≡ 0
reset_accepted s f e = eqb-true (frame s f).number 0 (and_split (eqb (frame s f).number 0) _ (reset_exactly s f ∙ e)).0

-- which it is: the one byte, and nothing of the record's part but what is right
pub record Reset99 (right : Bool) (r : Rest) (sent : List ℕ) (y m : ℕ) : Type 0 where
  pub known : right ≡ true
  pub alone : sent ≡ 0x99 ∷ []
  pub taken : resets true r (0x99 ∷ []) y m ≡ true

pub reset_99 : (right : Bool) (r : Rest) (sent : List ℕ) (y m : ℕ) → resets right r sent y m ≡ true → Reset99 right r sent y m
reset_99 right r sent y m e =
    let h = and_split (right && (leb (length sent) 65536 && leb y 65536 && eqb y m)) _ e in
    let p = and_split _ r.flags.enable h.1 in
    let q = and_split (eqb (length sent) 1) (eqb (opcode sent) 0x99) p.0 in
    let k = (and_split right _ h.0).0 in
    let a = one sent (eqb-true (length sent) 1 q.0) (eqb-true (opcode sent) 0x99 q.1) in
    record { known = k; alone = a; taken = (λ i. resets (sym k i) r (sym a i) y m) ∙ e }
  where
    one : (l : List ℕ) → length l ≡ 1 → opcode l ≡ 0x99 → l ≡ 0x99 ∷ []
    one [] n o = absurd (omega arith)
    one (x ∷ []) n o = ap (λ (z : ℕ). z ∷ []) o
    one (x ∷ z ∷ l) n o = absurd (omega arith)

-- ---- k and m are used only by an accepted 99 while busy, and by a power cut while something runs

-- of nothing nothing is finished, and nothing acts
module _ (s : State) (idle : is_nothing (running s) ≡ true) where
  abbrev none : running s ≡ Nothing
  none = nothing (running s) idle

  idle_array : (x : Bool) (t : Tear) → worked_array_lem x t s ≡ s.array
  idle_array x t =
      worked_array s (λ m. m ≡ s.array) refl
      (λ t. finish_same (running s) (array_range (running s)) s.chip.buffer t s.array
      (λ a h. absurd (in_nowhere a (subst (λ (w : Work). holds (array_range w) a ≡ true) none h))))
      x t

  idle_security : (x : Bool) (t : Tear) → worked_security_lem x t s ≡ s.security
  idle_security x t =
      worked_security s (λ m. m ≡ s.security) refl
      (λ t. finish_same (running s) (security_range (running s)) s.chip.buffer t s.security
      (λ a h. absurd (in_nowhere a (subst (λ (w : Work). holds (security_range w) a ≡ true) none h))))
      x t

idle_settled : (k : ℕ) (r : Rest) → is_nothing r.works.running ≡ true → settled_first k r ≡ r
idle_settled k r idle = go (ltb 0 k) r.works.running (nothing r.works.running idle)
  where
    go : (b : Bool) (w : Work) → w ≡ Nothing → pick b (settled w r) r ≡ r
    go true w e = rw e
    go false w e = refl

-- only a reset looks at k, and it does not where nothing runs
acts_same : (k : Kind) (sent : List ℕ) (n m : ℕ) (r : Rest) → (is_reset k ≡ true → is_nothing r.works.running ≡ true) → act k sent n r ≡ act k sent m r
unfolding is_reset
acts_same (Kind.Show s) sent n m r h = refl
acts_same (Kind.Begin l) sent n m r h = refl
acts_same (Kind.Do Short.Nothing) sent n m r h = refl
acts_same (Kind.Do Short.EnableReset) sent n m r h = refl
acts_same (Kind.Do Short.Reset) sent n m r h = ap after_reset (idle_settled n r (h refl) ∙ sym (idle_settled m r (h refl)))
acts_same (Kind.Do Short.ToSqi) sent n m r h = refl
acts_same (Kind.Do Short.ToSpi) sent n m r h = refl
acts_same (Kind.Do Short.SetWel) sent n m r h = refl
acts_same (Kind.Do Short.ClearWel) sent n m r h = refl
acts_same (Kind.Do Short.WriteProtection) sent n m r h = refl
acts_same (Kind.Do Short.LockDown) sent n m r h = refl
acts_same (Kind.Do Short.ClearLocks) sent n m r h = refl
acts_same (Kind.Do Short.Suspend) sent n m r h = refl
acts_same (Kind.Do Short.Resume) sent n m r h = refl
acts_same (Kind.Do Short.SetBurst) sent n m r h = refl

-- where a frame stops no work: it is no 99, or nothing runs
quiet : (x y : Bool) → (x && not y) ≡ false → x ≡ true → y ≡ true
quiet true true e h = refl
quiet true false e h = absurd (true≢false e)
quiet false y e h = absurd (false≢true h)

module _ (s : State) (f : Frame) (h : stops_work s f ≡ false) where
  frame_array : (t : Tear) → worked_array_lem (stops (frame s f).number f.sent) t s ≡ s.array
  unfolding worked_array_lem
  frame_array t = go (stops (frame s f).number f.sent) refl
    where
      go : (x : Bool) → stops (frame s f).number f.sent ≡ x → worked_array_lem x t s ≡ s.array
      go true e = idle_array s (quiet _ _ h e) true t
      go false e = refl

  frame_security : (t : Tear) → worked_security_lem (stops (frame s f).number f.sent) t s ≡ s.security
  unfolding worked_security_lem
  frame_security t = go (stops (frame s f).number f.sent) refl
    where
      go : (x : Bool) → stops (frame s f).number f.sent ≡ x → worked_security_lem x t s ≡ s.security
      go true e = idle_security s (quiet _ _ h e) true t
      go false e = refl

  frame_record : (n m : ℕ) → (frame s f).number ≡ 0
      → act (form_of (opcode f.sent)).kind f.sent n (with_enable false s.chip.rest) ≡ act (form_of (opcode f.sent)).kind f.sent m (with_enable false s.chip.rest)
  frame_record n m e =
      acts_same (form_of (opcode f.sent)).kind f.sent n m (with_enable false s.chip.rest)
      (λ k. quiet (stops (frame s f).number f.sent) _ h (ap (λ (x : ℕ). stops x f.sent) e ∙ or_left (eqb (opcode f.sent) 0x99) false (is_99 s f e ∙ k)))

-- ---- a done frame that is no 99, and a done 99, field by field

pub plain_done : (s : State) (f : Frame) → (frame s f).number ≡ 0 → stops (frame s f).number f.sent ≡ false
    → frame s f
    ≡ record {
      number = 0;
      chip = chip_of (buffer_after (form_of (opcode f.sent)).kind f.sent s.chip.buffer) (act (form_of (opcode f.sent)).kind f.sent 0 (with_enable false s.chip.rest));
      array = s.array;
      security = s.security;
      reply = written f.reply.size (λ i. (reply (form_of (opcode f.sent)).kind s.chip.rest s.array s.security f.sent i).byte);
      marks = written f.marks.size (λ i. (reply (form_of (opcode f.sent)).kind s.chip.rest s.array s.security f.sent i).mark);
    }
unfolding worked_array_lem worked_security_lem
plain_done s f e h =
    let k = (form_of (opcode f.sent)).kind in
    let used = with_enable false s.chip.rest in
    let none = ap (λ (x : ℕ). stops x f.sent) (sym e) ∙ h in
    let acts = acts_same k f.sent f.circumstances.tear.k 0 used (λ r. absurd (true≢false (sym (or_left (eqb (opcode f.sent) 0x99) false (is_99 s f e ∙ r)) ∙ none))) in
    frame_done_whole s f e
    ∙ (λ i.
    record {
      number = 0;
      chip = chip_of (buffer_after k f.sent s.chip.buffer) (acts i);
      array = worked_array_lem (none i) f.circumstances.tear s;
      security = worked_security_lem (none i) f.circumstances.tear s;
      reply = written f.reply.size (λ i. (reply k s.chip.rest s.array s.security f.sent i).byte);
      marks = written f.marks.size (λ i. (reply k s.chip.rest s.array s.security f.sent i).mark);
    })

pub reset_done : (s : State) (f : Frame) → (frame s f).number ≡ 0 → opcode f.sent ≡ 0x99
    → frame s f
    ≡ record {
      number = 0;
      chip = chip_of blank (after_reset (settled_first f.circumstances.tear.k (with_enable false s.chip.rest)));
      array = finish (running s) (array_range (running s)) s.chip.buffer f.circumstances.tear s.array;
      security = finish (running s) (security_range (running s)) s.chip.buffer f.circumstances.tear s.security;
      reply = written f.reply.size (λ i. 0xFF);
      marks = written f.marks.size (λ i. 0);
    }
unfolding form_of find frames worked_array_lem worked_security_lem
reset_done s f e o =
    frame_done_whole s f e
    ∙ ap (λ (x : ℕ).
    record {
      number = 0;
      chip = chip_of (buffer_after (form_of x).kind f.sent s.chip.buffer) (act (form_of x).kind f.sent f.circumstances.tear.k (with_enable false s.chip.rest));
      array = worked_array_lem (one_of x (0x99 ∷ [])) f.circumstances.tear s;
      security = worked_security_lem (one_of x (0x99 ∷ [])) f.circumstances.tear s;
      reply = written f.reply.size (λ i. (reply (form_of x).kind s.chip.rest s.array s.security f.sent i).byte);
      marks = written f.marks.size (λ i. (reply (form_of x).kind s.chip.rest s.array s.security f.sent i).mark);
    })
    o

pub frames_leave : FramesLeave
unfolding frame
frames_leave s f h = (frame_array s f h f.circumstances.tear, frame_security s f h f.circumstances.tear)

-- of the record k alone is asked, and only where the frame is done
frame_chip_lem : (n : ℕ) (c : Chip) (f : Frame) (t : Tear)
    → (n ≡ 0 → act (form_of (opcode f.sent)).kind f.sent t.k (with_enable false c.rest) ≡ act (form_of (opcode f.sent)).kind f.sent f.circumstances.tear.k (with_enable false c.rest))
    → frame_chip n c (with_tear t f) ≡ frame_chip n c f
unfolding frame_chip
frame_chip_lem n c f t h = go (eqb n 0) refl
  where
    go : (x : Bool) → eqb n 0 ≡ x
        → pick x (chip_of (buffer_after (form_of (opcode f.sent)).kind f.sent c.buffer) (act (form_of (opcode f.sent)).kind f.sent t.k (with_enable false c.rest))) (pick (one_of n (1 ∷ 2 ∷ [])) c (chip_of c.buffer (with_enable false c.rest)))
        ≡ pick x (chip_of (buffer_after (form_of (opcode f.sent)).kind f.sent c.buffer) (act (form_of (opcode f.sent)).kind f.sent f.circumstances.tear.k (with_enable false c.rest))) (pick (one_of n (1 ∷ 2 ∷ [])) c (chip_of c.buffer (with_enable false c.rest)))
    go true e = ap (chip_of (buffer_after (form_of (opcode f.sent)).kind f.sent c.buffer)) (h (eqb-true n 0 e))
    go false e = refl

pub frame_unused : FrameUnused
unfolding frame frame_tests frame_reply frame_marks
frame_unused s f t h =
    let n = first (frame_tests s f) in
    let c = frame_chip_lem n s.chip f t (frame_record s f h t.k f.circumstances.tear.k) in
    let a : worked_array_lem (stops n f.sent) t s ≡ worked_array_lem (stops n f.sent) f.circumstances.tear s = frame_array s f h t ∙ sym (frame_array s f h f.circumstances.tear) in
    let y : worked_security_lem (stops n f.sent) t s ≡ worked_security_lem (stops n f.sent) f.circumstances.tear s = frame_security s f h t ∙ sym (frame_security s f h f.circumstances.tear) in
    λ i. record { number = n; chip = c i; array = a i; security = y i; reply = frame_reply n s f; marks = frame_marks n s f }

pub cut_unused : CutUnused
unfolding power_cut cut_chip_lem
cut_unused s t u idle =
    let n = first (cut_tests s) in
    let x = eqb n 0 in
    let a = idle_array s idle x t ∙ sym (idle_array s idle x u) in
    let y = idle_security s idle x t ∙ sym (idle_security s idle x u) in
    let c = idle_settled t.k s.chip.rest idle ∙ sym (idle_settled u.k s.chip.rest idle) in
    λ i. record { number = n; chip = pick x (chip_of blank (after_cut (c i))) s.chip; array = a i; security = y i; reply = unlent; marks = unlent }

-- ---- m, only where the range has a byte k

past_array : (s : State) (k m n : ℕ) → (array_range (running s)).size ≤ k → (x : Bool) → worked_array_lem x (tear_of k m) s ≡ worked_array_lem x (tear_of k n) s
unfolding worked_array_lem
past_array s k m n h true = finish_past (running s) (array_range (running s)) s.chip.buffer k m n s.array h
past_array s k m n h false = refl

past_security : (s : State) (k m n : ℕ) → (security_range (running s)).size ≤ k → (x : Bool) → worked_security_lem x (tear_of k m) s ≡ worked_security_lem x (tear_of k n) s
unfolding worked_security_lem
past_security s k m n h true = finish_past (running s) (security_range (running s)) s.chip.buffer k m n s.security h
past_security s k m n h false = refl

pub past_the_end : PastTheEnd
unfolding power_cut frame frame_tests frame_chip frame_reply frame_marks
past_the_end s k m n h =
    record {
      of_cut = λ i. (let c = first (cut_tests s) in record { number = c; chip = cut_chip_lem c k s.chip; array = past_array s k m n h.0 (eqb c 0) i; security = past_security s k m n h.1 (eqb c 0) i; reply = unlent; marks = unlent });
      of_frame = λ f i.
          (let c = first (frame_tests s f) in
          record { number = c; chip = frame_chip c s.chip (with_tear (tear_of k m) f); array = past_array s k m n h.0 (stops c f.sent) i; security = past_security s k m n h.1 (stops c f.sent) i; reply = frame_reply c s f; marks = frame_marks c s f });
    }

-- ---- nothing but the range of what runs changes

pub range_alone : RangeAlone
range_alone s e =
    record {
      array = λ a h. event_array s (λ m. m.byte a ≡ s.array.byte a) refl (λ t. finish_outside (running s) (array_range (running s)) s.chip.buffer t s.array a h) e;
      security = λ a h. event_security s (λ m. m.byte a ≡ s.security.byte a) refl (λ t. finish_outside (running s) (security_range (running s)) s.chip.buffer t s.security a h) e;
    }

-- work that runs beside suspended work does not overlap it
apart : (r q : Work) (a : ℕ) → beside_right r q ≡ true → holds (array_range q) a ≡ true → holds (array_range r) a ≡ false
unfolding overlap
apart r q a e h = go (is_nothing r) (is_nothing q) refl refl e
  where
    go : (x y : Bool) → is_nothing r ≡ x → is_nothing q ≡ y
        → (x || y || (not (overlap (array_range r) (array_range q)) && (is_erase r && is_program q || is_program r && is_erase q))) ≡ true → holds (array_range r) a ≡ false
    go true y n m k = never _ (λ g. in_nowhere a (subst (λ (w : Work). holds (array_range w) a ≡ true) (nothing r n) g))
    go false true n m k = absurd (in_nowhere a (subst (λ (w : Work). holds (array_range w) a ≡ true) (nothing q m) h))
    go false false n m k =
        never _
        (λ g.
        let i = holds_at (array_range r) a g in
        let j = holds_at (array_range q) a h in
        let o = lt-ltb (max (array_range r).start (array_range q).start) (min ((array_range r).start + (array_range r).size) ((array_range q).start + (array_range q).size)) (omega arith) in
        true≢false (sym o ∙ not-true _ (and_split _ _ k).0))

pub suspended_stays : SuspendedStays
suspended_stays s e a r h =
    let formed = (and_split (well_formed s.chip) _ (and_split _ _ r).0).0 in
    (range_alone s e).array a (apart (running s) s.chip.rest.works.suspended a (well_of s.chip formed).works.beside h)

-- ---- document 01's power cut and reset

pub cut_as_01 : CutAs01
unfolding power_cut cut_of01 worked_array_lem worked_security_lem
cut_as_01 s k array security =
    let n = first (cut_tests s) in
    let w = running s in
    let a = clean_finish w (array_range w) s.chip.buffer k s.array array in
    let y = clean_finish w (security_range w) s.chip.buffer k s.security security in
    λ i. record { number = n; chip = cut_chip_lem n k s.chip; array = pick (eqb n 0) (a i) s.array; security = pick (eqb n 0) (y i) s.security; reply = unlent; marks = unlent }

untorn_array : (s : State) → OfBytes s.array → (x : Bool) → worked_array_lem x (cleanly (running s) 0) s ≡ s.array
unfolding worked_array_lem
untorn_array s bytes true = clean_none (running s) (array_range (running s)) s.chip.buffer s.array bytes
untorn_array s bytes false = refl

untorn_security : (s : State) → OfBytes s.security → (x : Bool) → worked_security_lem x (cleanly (running s) 0) s ≡ s.security
unfolding worked_security_lem
untorn_security s bytes true = clean_none (running s) (security_range (running s)) s.chip.buffer s.security bytes
untorn_security s bytes false = refl

pub reset_as_01 : ResetAs01
unfolding frame
reset_as_01 s f array security =
    let g = with_tear (cleanly (running s) 0) f in
    record {
      array = untorn_array s array (stops (first (frame_tests s g)) f.sent);
      security = untorn_security s security (stops (first (frame_tests s g)) f.sent);
      chip = λ e o. reset_leaves s g e o;
    }

-- ---- clear-only programming, and an erase only sets bits

-- an erase has no range in the Security ID
no_security : (w : Work) → is_erase w ≡ true → security_range w ≡ nowhere
no_security Nothing e = refl
no_security (EraseSector n) e = refl
no_security (EraseBlock n) e = refl
no_security EraseArray e = refl
no_security (ProgramPage n) e = refl
no_security (ProgramSecurity n) e = absurd (false≢true e)
no_security LockSecurity e = refl
no_security (WriteConfiguration i w) e = refl
no_security (AddPermanent v) e = refl

pub programs_clear : ProgramsClear
programs_clear s e =
    record {
      array = λ k. event_array s (Clears s.array) (λ a. and_self (s.array.byte a))
          (λ t a. finish_each (running s) (array_range (running s)) s.chip.buffer t s.array (λ x y. bit_and x y ≡ x) a (λ h. stopped_clears (running s) s.chip.buffer t (a - (array_range (running s)).start) (s.array.byte a) k) (and_self (s.array.byte a)))
          e;
      security = event_security s (Clears s.security) (λ a. and_self (s.security.byte a))
          (λ t a. finish_each (running s) (security_range (running s)) s.chip.buffer t s.security (λ x y. bit_and x y ≡ x) a (λ h. inside t a h (is_erase (running s)) refl) (and_self (s.security.byte a)))
          e;
    }
  where
    inside : (t : Tear) (a : ℕ) → holds (security_range (running s)) a ≡ true → (x : Bool) → is_erase (running s) ≡ x
        → let n = stopped (running s) s.chip.buffer t (a - (security_range (running s)).start) (s.security.byte a) in bit_and n (s.security.byte a) ≡ n
    inside t a h true k = absurd (in_nowhere a (subst (λ (r : Range). holds r a ≡ true) (no_security (running s) k) h))
    inside t a h false k = stopped_clears (running s) s.chip.buffer t (a - (security_range (running s)).start) (s.security.byte a) k

pub erases_set : ErasesSet
erases_set s e k bytes a =
    event_array s (λ m. bit_and (s.array.byte a) (m.byte a) ≡ s.array.byte a) (and_self (s.array.byte a))
    (λ t. finish_each (running s) (array_range (running s)) s.chip.buffer t s.array (λ x y. bit_and y x ≡ y) a (λ h. stopped_sets (running s) s.chip.buffer t (a - (array_range (running s)).start) (s.array.byte a) k (bytes a)) (and_self (s.array.byte a)))
    e

-- ---- the cases

of_tears : NoneFails tears
unfolding tears bit holds wide blocks seek block_of block_at write_locked read_locked finish frames find form_of place_cell shown blank fill page_buffer security_buffer reaches reaches_first command_tests frame_chip frame_cell_lem frame_reply frame_marks worked_array_lem worked_security_lem completed_chip_lem cut_chip_lem framed completed cut quick read_chip onward quick_after quick_last case_holds_lem failing_of failing
of_tears =
    refl
    next refl
    next refl
    next refl
    next refl
    next refl
    next refl
    next refl
    next refl
    next end

pub tears_hold : TearsHold
unfolding tears
tears_hold = record { hold = sections_hold of_tears; whole = refl }
