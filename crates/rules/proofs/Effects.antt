-- What done events leave, sentence by sentence of document 01, so that a wrong definition breaks a law. Assumes nothing.
use Prim.Native.Nat.{ℕ, zero, suc, ◌+◌, ◌-◌, ◌%◌, ◌<◌}
use mathlib.Core.Path.{◌≡◌, refl, sym, ap, ◌∙◌}
use mathlib.Core.Bool.{Bool, true, false, ◌&&◌, ◌||◌, false≢true}
use mathlib.Core.List.{List, [], ◌∷◌}
use native.Mathlib.Omega.{arith}
use lib.Dec.{ltb}
use lib.ListN.{length, get_or, set, length-set}
use lib.Seq.{get_or-set_same, get_or-set_other}
use lib.Bits.{bit_and, bit_or}
use borrow.Author.Tests.{lt-ltb, le-ltb, eq-eqb, ne_eqb}
use Rattle.rules.specs.declared.Burst.{Burst}
use Rattle.rules.specs.declared.Kind.{Kind}
use Rattle.rules.specs.declared.Range.{Range}
use Rattle.rules.specs.declared.Rest.{Rest}
use Rattle.rules.specs.declared.Short.{Short}
use Rattle.rules.specs.declared.Tear.{Tear}
use Rattle.rules.specs.declared.Work.{Work}
use Rattle.rules.specs.Words.{bit, pick, holds, Lent}
use Rattle.rules.specs.Blocks.{read_locked, read_locks, write_locks, all_locks}
use Rattle.rules.specs.Works.{is_erase, is_program, finished, torn, stopped, finish}
use Rattle.rules.specs.Frames.{frames, find, form_of, opcode, six}
use Rattle.rules.specs.Reading.{known, unknown, place_cell}
use Rattle.rules.specs.Programs.{blank, fill}
use Rattle.rules.specs.Fields.{locks_of, works_of, rest_of, chip_of, no_flags, with_protection, with_permanent, with_running, with_suspended, with_sqi, with_wel, with_ioc, with_wpen, with_sec, with_enable, with_ba, with_burst}
use Rattle.rules.specs.Commands.{power_up_ioc, power_up_burst, settled, settled_first, act, buffer_after, rested, new_of, new_chip, new_old_chip}
use Rattle.rules.specs.Numbers.{State, Frame}
use Rattle.rules.specs.Machine.{Outcome, frame, completion, power_cut}
use Rattle.rules.proofs.Bools.{upto, upto_at}
use Rattle.rules.proofs.Bits.{bit_or_lem, bit_and_lem}
use Rattle.rules.proofs.Refusals.{frame_done_whole, completion_done_whole, cut_done_whole}

-- ---- 01, Reads: the place rule

pub read_locked_place : (p : ℕ) (r : Range) (array : Lent) (a : ℕ) → read_locked p a ≡ true → place_cell p r array a ≡ known 0
unfolding place_cell
read_locked_place p r array a e = rw e

pub suspended_place : (p : ℕ) (r : Range) (array : Lent) (a : ℕ) → read_locked p a ≡ false → holds r a ≡ true → place_cell p r array a ≡ unknown
unfolding place_cell
suspended_place p r array a e h = rw (e, h)

pub stored_place : (p : ℕ) (r : Range) (array : Lent) (a : ℕ) → read_locked p a ≡ false → holds r a ≡ false → place_cell p r array a ≡ known (array.byte a)
unfolding place_cell
stored_place p r array a e h = rw (e, h)

-- ---- 01, Programs: the buffer

pub fill_length : (b : List ℕ) (p : ℕ) (ds : List ℕ) → length (fill b p ds) ≡ length b
unfolding fill
fill_length b p [] = refl
fill_length b p (d ∷ ds) = fill_length (set b (p % 256) d) (p + 1) ds ∙ length-set b (p % 256) d

-- a place that no byte goes to keeps what it had
pub fill_other : (b : List ℕ) (p : ℕ) (ds : List ℕ) (q : ℕ) → ((i : ℕ) → i < length ds → (p + i) % 256 ≡ q → ⊥) → get_or (fill b p ds) q 0 ≡ get_or b q 0
unfolding fill
fill_other b p [] q h = refl
fill_other b p (d ∷ ds) q h =
    fill_other (set b (p % 256) d) (p + 1) ds q (λ i below e. h (suc i) (omega arith) (omega arith))
    ∙ get_or-set_other b (p % 256) q d 0 (λ e. h 0 (omega arith) (omega arith))

-- byte i goes to place (p + i) mod 256, unless a later byte replaces it
pub fill_last : (b : List ℕ) (p : ℕ) (ds : List ℕ) (i : ℕ) → length b ≡ 256 → i < length ds
    → ((j : ℕ) → i < j → j < length ds → (p + j) % 256 ≡ (p + i) % 256 → ⊥)
    → get_or (fill b p ds) ((p + i) % 256) 0 ≡ get_or ds i 0
unfolding fill
fill_last b p [] i l h k = absurd (omega arith)
fill_last b p (d ∷ ds) zero l h k =
    let e : (p + 0) % 256 ≡ p % 256 = omega arith in
    fill_other (set b (p % 256) d) (p + 1) ds ((p + 0) % 256) (λ i below q. k (suc i) (omega arith) (omega arith) (omega arith))
    ∙ ap (λ (x : ℕ). get_or (set b (p % 256) d) x 0) e
    ∙ get_or-set_same b (p % 256) d 0 (omega arith)
fill_last b p (d ∷ ds) (suc i) l h k =
    let e : (p + suc i) % 256 ≡ (p + 1 + i) % 256 = omega arith in
    ap (λ (x : ℕ). get_or (fill (set b (p % 256) d) (p + 1) ds) x 0) e
    ∙ fill_last (set b (p % 256) d) (p + 1) ds i (length-set b (p % 256) d ∙ l) (omega arith)
    (λ j above below q. k (suc j) (omega arith) (omega arith) (omega arith))

-- ---- 01, Long and short; Power cut; 02, W-205: the first k bytes of the range are finished, byte k is torn, the rest is unchanged

module _ (w : Work) (r : Range) (b : List ℕ) (t : Tear) (m : Lent) (a : ℕ) where
  pub finish_inside : holds r a ≡ true → (finish w r b t m).byte a ≡ stopped w b t (a - r.start) (m.byte a)
  unfolding finish
  finish_inside h = rw h

  pub finish_first : holds r a ≡ true → a - r.start < t.k → (finish w r b t m).byte a ≡ finished w b (a - r.start) (m.byte a)
  unfolding finish
  finish_first h below = rw (h, lt-ltb (a - r.start) t.k below)

  pub finish_torn : holds r a ≡ true → a - r.start ≡ t.k → (finish w r b t m).byte a ≡ torn w b t.m (a - r.start) (m.byte a)
  unfolding finish
  finish_torn h e = rw (h, le-ltb (a - r.start) t.k (omega arith), eq-eqb (a - r.start) t.k e)

  pub finish_rest : t.k < a - r.start → (finish w r b t m).byte a ≡ m.byte a
  unfolding finish
  finish_rest above = go (holds r a)
    where
      go : (x : Bool) → pick x (stopped w b t (a - r.start) (m.byte a)) (m.byte a) ≡ m.byte a
      go true = rw (le-ltb (a - r.start) t.k (omega arith), ne_eqb (a - r.start) t.k (λ e. omega arith))
      go false = refl

  pub finish_outside : holds r a ≡ false → (finish w r b t m).byte a ≡ m.byte a
  unfolding finish
  finish_outside h = rw h

-- ---- the record after a completion: BUSY and WEL 0, the buffer FF unless a program is suspended; the rest stays but for what the work sets

pub record Completed (r q : Rest) (w : Work) : Type 0 where
  -- 20, D8, C7, 02, 32, A5
  pub plain : (is_erase w || is_program w) ≡ true → q ≡ r
  pub of_85 : w ≡ Work.LockSecurity → q ≡ with_sec true r
  pub of_01 : (i p : Bool) → w ≡ Work.WriteConfiguration i p → q ≡ with_ioc i (with_wpen p r)
  pub of_E8 : (v : ℕ) → w ≡ Work.AddPermanent v
      → q ≡ with_protection (bit_or r.locks.protection (bit_and v write_locks)) (with_permanent (bit_or r.locks.permanent (bit_and v write_locks)) r)

pub completion_leaves : (s : State) → (completion s).number ≡ 0
    → let r = s.chip.rest in
    Completed (with_running Work.Nothing (with_wel false r)) (completion s).chip.rest r.works.running
completion_leaves s e =
    record {
      plain = λ p. rest ∙ unset r.works.running p;
      of_85 = λ q. rest ∙ ap (λ (w : Work). rested (settled w r)) q;
      of_01 = λ i p q. rest ∙ ap (λ (w : Work). rested (settled w r)) q;
      of_E8 = λ v q. rest ∙ ap (λ (w : Work). rested (settled w r)) q;
    }
  where
    r : Rest
    r = s.chip.rest

    rest : (completion s).chip.rest ≡ rested (settled s.chip.rest.works.running s.chip.rest)
    rest = ap (λ (o : Outcome). o.chip.rest) (completion_done_whole s e)

    unset : (w : Work) → (is_erase w || is_program w) ≡ true → rested (settled w r) ≡ rested r
    unset Work.Nothing p = absurd (false≢true p)
    unset (Work.EraseSector n) p = refl
    unset (Work.EraseBlock n) p = refl
    unset Work.EraseArray p = refl
    unset (Work.ProgramPage n) p = refl
    unset (Work.ProgramSecurity n) p = refl
    unset Work.LockSecurity p = absurd (false≢true p)
    unset (Work.WriteConfiguration i w) p = absurd (false≢true p)
    unset (Work.AddPermanent v) p = absurd (false≢true p)

pub completion_buffer : (s : State) → (completion s).number ≡ 0
    → (completion s).chip.buffer ≡ pick (is_program s.chip.rest.works.suspended) s.chip.buffer blank
completion_buffer s e = ap (λ (o : Outcome). o.chip.buffer) (completion_done_whole s e)

-- ---- the record after a reset: 85, 01 and E8 have acted if k is 1 or more; then the protocol, WEL, IOC, the burst, the enable, what runs and what is suspended are as at
-- power-up, and nothing else moves

pub reset_leaves : (s : State) (f : Frame) → (frame s f).number ≡ 0 → opcode f.sent ≡ 0x99
    → let used = with_enable false s.chip.rest in
    let left = pick (ltb 0 f.circumstances.tear.k) (settled s.chip.rest.works.running used) used in
    (frame s f).chip ≡ chip_of blank (with_sqi false (with_wel false (with_ioc (power_up_ioc left.flags.ba) (with_burst power_up_burst (with_running Work.Nothing (with_suspended Work.Nothing left))))))
unfolding form_of find frames
reset_leaves s f e o =
    ap (λ (q : Outcome). q.chip) (frame_done_whole s f e)
    ∙ ap (λ (x : ℕ). chip_of (buffer_after (form_of x).kind f.sent s.chip.buffer) (act (form_of x).kind f.sent f.circumstances.tear.k (with_enable false s.chip.rest))) o

-- what work sets is not the enable: used up before or after, it comes to the same
pub used_settled : (k : ℕ) (r : Rest) → with_enable false (settled_first k r) ≡ settled_first k (with_enable false r)
used_settled k r = go (ltb 0 k) r.works.running
  where
    sets : (w : Work) → with_enable false (settled w r) ≡ settled w (with_enable false r)
    sets Work.Nothing = refl
    sets (Work.EraseSector n) = refl
    sets (Work.EraseBlock n) = refl
    sets Work.EraseArray = refl
    sets (Work.ProgramPage n) = refl
    sets (Work.ProgramSecurity n) = refl
    sets Work.LockSecurity = refl
    sets (Work.WriteConfiguration i w) = refl
    sets (Work.AddPermanent v) = refl

    go : (b : Bool) (w : Work) → with_enable false (pick b (settled w r) r) ≡ pick b (settled w (with_enable false r)) (with_enable false r)
    go true w = sets w
    go false w = refl

-- ---- the record of a new chip, of the old part and of BA; after a power cut it is that of its part again, but for SEC, WPEN and the permanent register, which stay as the work left them

pub new_old_is : new_old_chip ≡ chip_of blank (rest_of (locks_of 0x5555_FFFF_FFFF 0) (works_of Work.Nothing Work.Nothing) no_flags Burst.Eight)
new_old_is = refl

pub new_is : new_chip ≡ chip_of blank (with_ba true (with_ioc true new_old_chip.rest))
new_is = refl

pub cut_leaves : (s : State) (t : Tear) → (power_cut s t).number ≡ 0
    → let left = pick (ltb 0 t.k) (settled s.chip.rest.works.running s.chip.rest) s.chip.rest in
    (power_cut s t).chip
    ≡ chip_of blank (with_sec left.flags.sec (with_wpen left.flags.wpen (with_permanent left.locks.permanent (new_of left.flags.ba).rest)))
cut_leaves s t e = ap (λ (q : Outcome). q.chip) (cut_done_whole s t e)

-- ---- 42, 98 and E8, bit by bit

all_bits : upto 48 (λ n. bit n all_locks) ≡ true
unfolding bit
all_bits = refl

every_bit : (n : ℕ) → n < 48 → bit n all_locks ≡ true
every_bit n h = upto_at 48 (λ n. bit n all_locks) all_bits n h

pub after_42 : (sent : List ℕ) (k : ℕ) (r : Rest) (n : ℕ) → n < 48
    → bit n (act (Kind.Do Short.WriteProtection) sent k r).locks.protection ≡ (bit n (six sent) || bit n r.locks.permanent)
after_42 sent k r n h =
    bit_or_lem n (bit_and (six sent) all_locks) r.locks.permanent
    ∙ ap (λ (x : Bool). x || bit n r.locks.permanent) (bit_and_lem n (six sent) all_locks ∙ whole (bit n (six sent)) (bit n all_locks) (every_bit n h))
  where
    whole : (x y : Bool) → y ≡ true → (x && y) ≡ x
    whole true y e = e
    whole false y e = refl

pub after_98 : (sent : List ℕ) (k : ℕ) (r : Rest) (n : ℕ)
    → bit n (act (Kind.Do Short.ClearLocks) sent k r).locks.protection ≡ (bit n r.locks.protection && bit n read_locks || bit n r.locks.permanent)
after_98 sent k r n =
    bit_or_lem n (bit_and r.locks.protection read_locks) r.locks.permanent
    ∙ ap (λ (x : Bool). x || bit n r.locks.permanent) (bit_and_lem n r.locks.protection read_locks)

pub after_E8 : (v : ℕ) (r : Rest) (n : ℕ)
    → (bit n (settled (Work.AddPermanent v) r).locks.permanent ≡ (bit n r.locks.permanent || bit n v && bit n write_locks))
    × (bit n (settled (Work.AddPermanent v) r).locks.protection ≡ (bit n r.locks.protection || bit n v && bit n write_locks))
after_E8 v r n = (
  bit_or_lem n r.locks.permanent (bit_and v write_locks) ∙ ap (λ (x : Bool). bit n r.locks.permanent || x) (bit_and_lem n v write_locks),
  bit_or_lem n r.locks.protection (bit_and v write_locks) ∙ ap (λ (x : Bool). bit n r.locks.protection || x) (bit_and_lem n v write_locks),
)

-- ---- suspension

-- what is put aside and run again is what ran: nothing else of the record changes
pub suspend_resume : (sent sent' : List ℕ) (k k' : ℕ) (r : Rest) → r.works.suspended ≡ Work.Nothing → act (Kind.Do Short.Resume) sent' k' (act (Kind.Do Short.Suspend) sent k r) ≡ r
suspend_resume sent sent' k k' r e =
    ap (λ (w : Work). with_suspended w r) (sym e)
