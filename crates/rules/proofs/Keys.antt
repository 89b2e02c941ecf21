-- Demand 3. With the lock-down and no power cut the read locks stand and the write locks only grow, so a key byte is never shown, and
-- work, which runs only in ranges with no write lock, never changes it. That the chips are idle at the start is not needed. Assumes nothing.
use Prim.Native.Nat.{ℕ, ◌+◌, ◌-◌, ◌%◌, ◌<◌}
use mathlib.Core.Path.{◌≡◌, refl, sym, ap, ◌∙◌, subst, fun_ext}
use mathlib.Core.Bool.{Bool, true, false, ◌&&◌, ◌||◌, true≢false}
use mathlib.Core.List.{List, [], ◌∷◌}
use native.Mathlib.Omega.{arith}
use lib.Dec.{eqb, ltb}
use lib.Bits.{bit_and, bit_or}
use borrow.Author.Tests.{eqb-true}
use Rattle.rules.specs.declared.Cell.{Cell}
use Rattle.rules.specs.declared.Chip.{Chip}
use Rattle.rules.specs.declared.Kind.{Kind}
use Rattle.rules.specs.declared.Range.{Range}
use Rattle.rules.specs.declared.Rest.{Rest}
use Rattle.rules.specs.declared.Short.{Short}
use Rattle.rules.specs.declared.Source.{Source}
use Rattle.rules.specs.declared.Tear.{Tear}
use Rattle.rules.specs.declared.Work.{Work}
use Rattle.rules.specs.declared.Work.TheVariants.{Nothing, EraseSector, EraseBlock, EraseArray, ProgramPage, ProgramSecurity, LockSecurity, WriteConfiguration, AddPermanent}
use Rattle.rules.specs.Words.{bit, pick, one_of, Each, end, ◌next◌, holds, written}
use Rattle.rules.specs.Blocks.{array_size_lem, block_of, block_at, read_locked, write_locked, write_locks}
use Rattle.rules.specs.Works.{array_range, stopped, all, finish}
use Rattle.rules.specs.Frames.{form_of, opcode, address}
use Rattle.rules.specs.Bursts.{burst_length}
use Rattle.rules.specs.Reading.{known, unknown, silent, place_cell, shown, reply}
use Rattle.rules.specs.Fields.{chip_of, with_enable}
use Rattle.rules.specs.Commands.{act, buffer_after, settled, settled_first, rested, buffer_rested}
use Rattle.rules.specs.WellFormed.{well_formed}
use Rattle.rules.specs.Numbers.{State, Frame, state_right, first, frame_tests, completion_tests}
use Rattle.rules.specs.Machine.{Outcome, worked_array_lem, worked_security_lem, frame_chip, stops, frame_cell_lem, frame_reply, frame_marks, frame, completed_chip_lem, completion, Event, left, sends, completes, cuts, step, run}
use Rattle.rules.specs.Promises.{state_of}
use Rattle.rules.specs.Demands.{events_of, outcomes_of, key_place, Uncut, Kept, AllKept, Demand3, Demand3OfCode}
use Rattle.rules.proofs.Bools.{and_split, never}
use Rattle.rules.proofs.Bits.{bit_or_lem}
use Rattle.rules.proofs.Blocks.{unlocked_place}
use Rattle.rules.proofs.Bursts.{burst_in_array, lengths_divide}
use Rattle.rules.proofs.Effects.{finish_outside}
use Rattle.rules.proofs.Numbers.{Accepted, accepted, accepted_right, completion_given}
use Rattle.rules.proofs.Rows.{opcodes_of, by_kind, at_each, at_one}
use Rattle.rules.proofs.Runs.{demand_2}
use Rattle.rules.proofs.WellFormed.{well_of}

-- ---- the locks of the key blocks of the start, under the record of now

pub record Locked (p₀ : ℕ) (r : Rest) : Type 0 where
  pub down : r.flags.wpld ≡ true
  pub held : (a : ℕ) → key_place p₀ a ≡ true → (read_locked r.locks.protection a ≡ true) × (write_locked r.locks.protection a ≡ true)

-- 42 and 98 are refused under the lock-down
refused : (w : Bool) → w ≡ true → (w || false || false) ≡ false → ⊥
refused true e h = true≢false h
refused false e h = true≢false (sym e)

module _ (p₀ : ℕ) where
  same_locks : (r q : Rest) → Locked p₀ r → q.flags.wpld ≡ true → q.locks.protection ≡ r.locks.protection → Locked p₀ q
  same_locks r q l down e =
      record {
        down = down;
        held = λ a k. let h = l.held a k in (ap (λ (p : ℕ). read_locked p a) e ∙ h.0, ap (λ (p : ℕ). write_locked p a) e ∙ h.1);
      }

  -- E8 adds locks and takes none
  more_read : (p v a : ℕ) → read_locked p a ≡ true → read_locked (bit_or p v) a ≡ true
  unfolding read_locked
  more_read p v a e = go (block_at (block_of a)).paired (bit ((block_at (block_of a)).write + 1) p) (bit ((block_at (block_of a)).write + 1) v) (bit_or_lem ((block_at (block_of a)).write + 1) p v) e
    where
      go : (q x y : Bool) {z : Bool} → z ≡ (x || y) → (q && x) ≡ true → (q && z) ≡ true
      go true true y e h = e
      go true false y e h = absurd (true≢false (sym h))
      go false x y e h = h

  more_write : (p v a : ℕ) → write_locked p a ≡ true → write_locked (bit_or p v) a ≡ true
  unfolding write_locked
  more_write p v a e = bit_or_lem (block_at (block_of a)).write p v ∙ ap (λ (x : Bool). x || bit (block_at (block_of a)).write v) e

  settled_locked : (w : Work) (r : Rest) → Locked p₀ r → Locked p₀ (settled w r)
  settled_locked Nothing r l = l
  settled_locked (EraseSector n) r l = l
  settled_locked (EraseBlock n) r l = l
  settled_locked EraseArray r l = l
  settled_locked (ProgramPage n) r l = l
  settled_locked (ProgramSecurity n) r l = l
  settled_locked LockSecurity r l = same_locks r _ l l.down refl
  settled_locked (WriteConfiguration i w) r l = same_locks r _ l l.down refl
  settled_locked (AddPermanent v) r l =
      record {
        down = l.down;
        held = λ a k. let h = l.held a k in (more_read r.locks.protection (bit_and v write_locks) a h.0, more_write r.locks.protection (bit_and v write_locks) a h.1);
      }

  stopped_locked : (k : ℕ) (r : Rest) → Locked p₀ r → Locked p₀ (settled_first k r)
  stopped_locked k r l = go (ltb 0 k)
    where
      go : (b : Bool) → Locked p₀ (pick b (settled r.works.running r) r)
      go true = settled_locked r.works.running r l
      go false = l

  -- a done frame: a reset lets 85, 01 and E8 act first
  module _ (r : Rest) (sent : List ℕ) (n : ℕ) (l : Locked p₀ r) where
    abbrev Holds : Kind → Type 0
    Holds k = Locked p₀ (act k sent n (with_enable false r))

    kept_locks : (q : Rest) → q.flags.wpld ≡ r.flags.wpld → q.locks.protection ≡ r.locks.protection → Locked p₀ q
    kept_locks q d e = same_locks r q l (d ∙ l.down) e

    kind_locked : (k : Kind) → Each (λ o. Accepted r o sent → Holds k) (opcodes_of k)
    kind_locked (Kind.Show s) = at_each (λ o a. kept_locks _ refl refl) (opcodes_of (Kind.Show s))
    kind_locked (Kind.Begin b) = at_each (λ o a. kept_locks _ refl refl) (opcodes_of (Kind.Begin b))
    kind_locked (Kind.Do Short.Nothing) = (λ a. kept_locks _ refl refl) next end
    kind_locked (Kind.Do Short.EnableReset) = (λ a. kept_locks _ refl refl) next end
    kind_locked (Kind.Do Short.Reset) =
        (λ a. let q = stopped_locked n (with_enable false r) (kept_locks _ refl refl) in same_locks (settled_first n (with_enable false r)) _ q q.down refl) next end
    kind_locked (Kind.Do Short.ToSqi) = (λ a. kept_locks _ refl refl) next end
    kind_locked (Kind.Do Short.ToSpi) = (λ a. kept_locks _ refl refl) next end
    kind_locked (Kind.Do Short.SetWel) = (λ a. kept_locks _ refl refl) next end
    kind_locked (Kind.Do Short.ClearWel) = (λ a. kept_locks _ refl refl) next end
    kind_locked (Kind.Do Short.WriteProtection) = (λ a. absurd (refused r.flags.wpld l.down a.opened)) next end
    kind_locked (Kind.Do Short.LockDown) = (λ a. same_locks r _ l refl refl) next end
    kind_locked (Kind.Do Short.ClearLocks) = (λ a. absurd (refused r.flags.wpld l.down a.opened)) next end
    kind_locked (Kind.Do Short.Suspend) = (λ a. kept_locks _ refl refl) next end
    kind_locked (Kind.Do Short.Resume) = (λ a. kept_locks _ refl refl) next end
    kind_locked (Kind.Do Short.SetBurst) = (λ a. kept_locks _ refl refl) next end

    done_locked : Accepted r (opcode sent) sent → Holds (form_of (opcode sent)).kind
    done_locked a =
        let k = (form_of (opcode sent)).kind in
        at_one (λ o. Accepted r o sent → Holds k) (opcodes_of k) (opcode sent) (by_kind r.flags.sqi (opcode sent) a.is_listed) (kind_locked k) a

  frame_locked : (n : ℕ) (c : Chip) (f : Frame) → Locked p₀ c.rest → (n ≡ 0 → Accepted c.rest (opcode f.sent) f.sent) → Locked p₀ (frame_chip n c f).rest
  unfolding frame_chip
  frame_locked n c f l a = go (eqb n 0) refl (one_of n (1 ∷ 2 ∷ []))
    where
      go : (x : Bool) → eqb n 0 ≡ x → (y : Bool)
          → Locked p₀
          (pick x (chip_of (buffer_after (form_of (opcode f.sent)).kind f.sent c.buffer) (act (form_of (opcode f.sent)).kind f.sent f.circumstances.tear.k (with_enable false c.rest))) (pick y c (chip_of c.buffer (with_enable false c.rest)))).rest
      go true e y = done_locked c.rest f.sent f.circumstances.tear.k l (a (eqb-true n 0 e))
      go false e true = l
      go false e false = same_locks c.rest _ l l.down refl

  completed_locked : (n : ℕ) (c : Chip) → Locked p₀ c.rest → Locked p₀ (completed_chip_lem n c).rest
  unfolding completed_chip_lem
  completed_locked n c l = go (eqb n 0)
    where
      go : (b : Bool) → Locked p₀ (pick b (chip_of (buffer_rested c.rest.works.suspended c.buffer) (rested (settled c.rest.works.running c.rest))) c).rest
      go true = let q = settled_locked c.rest.works.running c.rest l in same_locks (settled c.rest.works.running c.rest) _ q q.down refl
      go false = l

  -- ---- what is seen of a frame

  -- the same state with other bytes in the array
  with_bytes : State → (ℕ → ℕ) → State
  with_bytes s g = record { chip = s.chip; array = record { size = s.array.size; byte = g }; security = s.security }

  module _ (s : State) (g : ℕ → ℕ) (l : Locked p₀ s.chip.rest) (agree : (a : ℕ) → a < array_size_lem → key_place p₀ a ≡ false → s.array.byte a ≡ g a) where
    cell_same : (r : Range) (a : ℕ) → a < array_size_lem → place_cell s.chip.rest.locks.protection r s.array a ≡ place_cell s.chip.rest.locks.protection r (with_bytes s g).array a
    unfolding place_cell with_bytes
    cell_same r a below = go (read_locked s.chip.rest.locks.protection a) refl
      where
        go : (x : Bool) → read_locked s.chip.rest.locks.protection a ≡ x
            → pick x (known 0) (pick (holds r a) unknown (known (s.array.byte a))) ≡ pick x (known 0) (pick (holds r a) unknown (known (g a)))
        go true e = refl
        go false e =
            ap (λ (b : ℕ). pick (holds r a) unknown (known b))
            (agree a below (never (key_place p₀ a) (λ k. true≢false (sym (l.held a k).0 ∙ e))))

    shown_same : (x : Source) (sent : List ℕ) (i : ℕ) → shown x s.chip.rest s.array s.security sent i ≡ shown x s.chip.rest (with_bytes s g).array s.security sent i
    unfolding shown
    shown_same Source.Status sent i = refl
    shown_same Source.Configuration sent i = refl
    shown_same Source.Protection sent i = refl
    shown_same Source.Identity sent i = refl
    shown_same Source.Array sent i = cell_same (array_range s.chip.rest.works.suspended) ((address sent + i) % array_size_lem) (omega arith)
    shown_same Source.ArrayBurst sent i =
        cell_same (array_range s.chip.rest.works.suspended) _ (burst_in_array (burst_length s.chip.rest.burst) (address sent) i (lengths_divide s.chip.rest.burst) (omega arith))
    shown_same Source.Security sent i = refl

    reply_same : (k : Kind) (sent : List ℕ) (i : ℕ) → reply k s.chip.rest s.array s.security sent i ≡ reply k s.chip.rest (with_bytes s g).array s.security sent i
    reply_same (Kind.Show x) sent i = shown_same x sent i
    reply_same (Kind.Begin x) sent i = refl
    reply_same (Kind.Do x) sent i = refl

    frame_cell_same : (n : ℕ) (sent : List ℕ) (i : ℕ) → frame_cell_lem n s sent i ≡ frame_cell_lem n (with_bytes s g) sent i
    unfolding frame_cell_lem with_bytes
    frame_cell_same n sent i = ap (λ (x : Cell). pick (eqb n 0) x silent) (reply_same (form_of (opcode sent)).kind sent i)

    frame_reply_same : (n : ℕ) (f : Frame) → frame_reply n s f ≡ frame_reply n (with_bytes s g) f
    unfolding frame_reply
    frame_reply_same n f = ap (λ (h : ℕ → ℕ). pick (eqb n 1) f.reply (written f.reply.size h)) (fun_ext (λ i. ap (λ (x : Cell). x.byte) (frame_cell_same n f.sent i)))

    frame_marks_same : (n : ℕ) (f : Frame) → frame_marks n s f ≡ frame_marks n (with_bytes s g) f
    unfolding frame_marks
    frame_marks_same n f = ap (λ (h : ℕ → ℕ). pick (eqb n 1) f.marks (written f.marks.size h)) (fun_ext (λ i. ap (λ (x : Cell). x.mark) (frame_cell_same n f.sent i)))

  -- ---- what work that is finished, as far as t says, does to the memories

  module _ (x : Bool) (t : Tear) (s : State) where
    worked_alike : (g : ℕ → ℕ) (a : ℕ) → s.array.byte a ≡ g a → (worked_array_lem x t s).byte a ≡ (worked_array_lem x t (with_bytes s g)).byte a
    unfolding worked_array_lem finish with_bytes
    worked_alike g a e = go x
      where
        w : Work
        w = s.chip.rest.works.running

        go : (x : Bool)
            → (pick x (finish w (array_range w) s.chip.buffer t s.array) s.array).byte a
            ≡ (pick x (finish w (array_range w) s.chip.buffer t (record { size = s.array.size; byte = g })) (record { size = s.array.size; byte = g })).byte a
        go true = ap (λ (y : ℕ). pick (holds (array_range w) a) (stopped w s.chip.buffer t (a - (array_range w).start) y) y) e
        go false = e

    worked_size : (worked_array_lem x t s).size ≡ s.array.size
    unfolding worked_array_lem finish
    worked_size = go x
      where
        go : (x : Bool) → (pick x (finish s.chip.rest.works.running (array_range s.chip.rest.works.running) s.chip.buffer t s.array) s.array).size ≡ s.array.size
        go true = refl
        go false = refl

    worked_security : (g : ℕ → ℕ) → worked_security_lem x t s ≡ worked_security_lem x t (with_bytes s g)
    unfolding worked_security_lem with_bytes
    worked_security g = refl

    -- a key byte lies in no range that runs
    worked_key : (a : ℕ) → Locked p₀ s.chip.rest → (x ≡ true → state_right s ≡ true) → a < array_size_lem → key_place p₀ a ≡ true → (worked_array_lem x t s).byte a ≡ s.array.byte a
    unfolding worked_array_lem
    worked_key a l r below k = go x refl
      where
        w : Work
        w = s.chip.rest.works.running

        formed : state_right s ≡ true → well_formed s.chip ≡ true
        formed e = (and_split (well_formed s.chip) _ (and_split _ _ e).0).0

        go : (y : Bool) → x ≡ y → (pick y (finish w (array_range w) s.chip.buffer t s.array) s.array).byte a ≡ s.array.byte a
        go true e =
            finish_outside w (array_range w) s.chip.buffer t s.array a
            (never (holds (array_range w) a)
            (λ h. true≢false (sym (l.held a k).1 ∙ unlocked_place s.chip.rest.locks.protection (array_range w) a (well_of s.chip (formed (r e))).works.running_open below h)))
        go false e = refl

  -- ---- two states on the way

  record Twins (s₀ t₀ s t : State) : Type 0 where
    chip : s.chip ≡ t.chip
    security : s.security ≡ t.security
    size : s.array.size ≡ t.array.size
    locked : Locked p₀ s.chip.rest
    alike : (a : ℕ) → a < array_size_lem → key_place p₀ a ≡ false → s.array.byte a ≡ t.array.byte a
    first_keys : (a : ℕ) → a < array_size_lem → key_place p₀ a ≡ true → s.array.byte a ≡ s₀.array.byte a
    second_keys : (a : ℕ) → a < array_size_lem → key_place p₀ a ≡ true → t.array.byte a ≡ t₀.array.byte a

  -- the second is the first with other bytes
  other_bytes : (s₀ t₀ s t : State) → Twins s₀ t₀ s t → with_bytes s t.array.byte ≡ t
  unfolding with_bytes
  other_bytes s₀ t₀ s t w =
      let c = w.chip in
      let y = w.security in
      let z = w.size in
      λ i. record { chip = c i; array = record { size = z i; byte = t.array.byte }; security = y i }

  -- what an event leaves, and what tells two outcomes apart
  record Follows (s₀ t₀ : State) (o q : Outcome) : Type 0 where
    number : o.number ≡ q.number
    reply : o.reply ≡ q.reply
    marks : o.marks ≡ q.marks
    twins : Twins s₀ t₀ (record { chip = o.chip; array = o.array; security = o.security }) (record { chip = q.chip; array = q.array; security = q.security })

  -- the two after an event that leaves this record
  module _ (s₀ t₀ s t : State) (w : Twins s₀ t₀ s t) (x : Bool) (r : Tear) (right : x ≡ true → state_right s ≡ true) (c : Chip) where
    abbrev leaves : State → State
    leaves u = record { chip = c; array = worked_array_lem x r u; security = worked_security_lem x r u }

    worked_twins : Locked p₀ c.rest → Twins s₀ t₀ (leaves s) (leaves (with_bytes s t.array.byte))
    unfolding with_bytes
    worked_twins l =
        let u = with_bytes s t.array.byte in
        record {
          chip = refl;
          security = worked_security x r s t.array.byte;
          size = worked_size x r s ∙ sym (worked_size x r u);
          locked = l;
          alike = λ a below k. worked_alike x r s t.array.byte a (w.alike a below k);
          first_keys = λ a below k. worked_key x r s a w.locked right below k ∙ w.first_keys a below k;
          second_keys = λ a below k. worked_key x r u a w.locked right below k ∙ w.second_keys a below k;
        }

  frame_after : (s₀ t₀ s t : State) (f : Frame) → Twins s₀ t₀ s t → Follows s₀ t₀ (frame s f) (frame (with_bytes s t.array.byte) f)
  unfolding frame with_bytes frame_tests
  frame_after s₀ t₀ s t f w =
      let n = first (frame_tests s f) in
      let right : stops n f.sent ≡ true → state_right s ≡ true = λ h. (accepted_right s f (eqb-true n 0 (and_split (eqb n 0) _ h).0)).0 in
      record {
        number = refl;
        reply = frame_reply_same s t.array.byte w.locked w.alike n f;
        marks = frame_marks_same s t.array.byte w.locked w.alike n f;
        twins = worked_twins s₀ t₀ s t w (stops n f.sent) f.circumstances.tear right (frame_chip n s.chip f) (frame_locked n s.chip f w.locked (λ e. accepted s f e));
      }

  completion_after : (s₀ t₀ s t : State) → Twins s₀ t₀ s t → Follows s₀ t₀ (completion s) (completion (with_bytes s t.array.byte))
  unfolding completion with_bytes completion_tests
  completion_after s₀ t₀ s t w =
      let n = first (completion_tests s) in
      let right : eqb n 0 ≡ true → state_right s ≡ true = λ h. ((completion_given s).is_0.0 (eqb-true n 0 h)).0 in
      record {
        number = refl;
        reply = refl;
        marks = refl;
        twins = worked_twins s₀ t₀ s t w (eqb n 0) all right (completed_chip_lem n s.chip) (completed_locked n s.chip w.locked);
      }

  step_after : (s₀ t₀ s t : State) (e : Event) → Uncut (e ∷ []) → Twins s₀ t₀ s t → Follows s₀ t₀ (step s e) (step t e)
  unfolding step
  step_after s₀ t₀ s t (sends f) n w = subst (λ (t : State). Follows s₀ t₀ (frame s f) (frame t f)) (other_bytes s₀ t₀ s t w) (frame_after s₀ t₀ s t f w)
  step_after s₀ t₀ s t completes n w = subst (λ (t : State). Follows s₀ t₀ (completion s) (completion t)) (other_bytes s₀ t₀ s t w) (completion_after s₀ t₀ s t w)
  step_after s₀ t₀ s t (cuts r) n w = absurd n

  kept : (s₀ t₀ : State) (o q : Outcome) → s₀.chip.rest.locks.protection ≡ p₀ → Follows s₀ t₀ o q → Kept key_place s₀ t₀ o q
  kept s₀ t₀ o q e w =
      let back : (a : ℕ) → key_place p₀ a ≡ key_place s₀.chip.rest.locks.protection a = λ a. ap (λ (p : ℕ). key_place p a) (sym e) in
      record {
        same_number = w.number;
        same_reply = w.reply;
        same_marks = w.marks;
        same_record = w.twins.chip;
        same_security = w.twins.security;
        same_size = w.twins.size;
        alike = λ a below k. w.twins.alike a below (back a ∙ k);
        first_keys = λ a below k. w.twins.first_keys a below (back a ∙ k);
        second_keys = λ a below k. w.twins.second_keys a below (back a ∙ k);
      }

  kept_run : (s₀ t₀ s t : State) (es : List Event) → s₀.chip.rest.locks.protection ≡ p₀ → Uncut es → Twins s₀ t₀ s t → AllKept key_place s₀ t₀ (run s es) (run t es)
  unfolding run
  kept_run s₀ t₀ s t [] p u w = tt
  kept_run s₀ t₀ s t (sends f ∷ es) p u w =
      let h = step_after s₀ t₀ s t (sends f) tt w in
      (kept s₀ t₀ _ _ p h, kept_run s₀ t₀ (left (step s (sends f))) (left (step t (sends f))) es p u h.twins)
  kept_run s₀ t₀ s t (completes ∷ es) p u w =
      let h = step_after s₀ t₀ s t completes tt w in
      (kept s₀ t₀ _ _ p h, kept_run s₀ t₀ (left (step s completes)) (left (step t completes)) es p u h.twins)
  kept_run s₀ t₀ s t (cuts r ∷ es) p u w = absurd u

-- ---- the demand

-- at the start both locks stand
start_locked : (s : State) → s.chip.rest.flags.wpld ≡ true → Locked s.chip.rest.locks.protection s.chip.rest
start_locked s d = record { down = d; held = λ a k. and_split (read_locked s.chip.rest.locks.protection a) (write_locked s.chip.rest.locks.protection a) k }

pub demand_3 : Demand3
demand_3 s t es c u =
    kept_run s.chip.rest.locks.protection s t s t es refl u
    (record {
      chip = c.same_record;
      security = c.same_security;
      size = c.same_size;
      locked = start_locked s c.locked_down;
      alike = c.alike;
      first_keys = λ a below k. refl;
      second_keys = λ a below k. refl;
    })

pub demand_3_of_code : Demand3OfCode
demand_3_of_code b d es gs hs c u p q =
    subst (λ (os : List Outcome). AllKept key_place (state_of b) (state_of d) os (outcomes_of hs)) (sym (demand_2 b es gs p).machine)
    (subst (λ (os : List Outcome). AllKept key_place (state_of b) (state_of d) (run (state_of b) (events_of es)) os) (sym (demand_2 d es hs q).machine)
    (demand_3 (state_of b) (state_of d) (events_of es) c u))
