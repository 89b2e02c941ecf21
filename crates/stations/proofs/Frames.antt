-- The store's frames on a right record in SPI: each is done or refused by its tests, and then leaves what the rules say of its number. Assumes nothing.
use Prim.Native.Nat.{ℕ, zero, suc, ◌+◌, ◌*◌, ◌/◌, ◌%◌, ◌^◌, ◌≤◌, ◌<◌}
use mathlib.Core.Path.{◌≡◌, refl, sym, ap, ◌∙◌, subst}
use mathlib.Core.Bool.{Bool, true, false, not, ◌&&◌, ◌||◌, and-false}
use mathlib.Core.List.{List, [], ◌∷◌}
use native.Mathlib.Omega.{arith}
use lib.Dec.{eqb, ltb}
use lib.ListN.{length}
use borrow.Author.Tests.{eq-eqb, ne_eqb, le-leb, lt-ltb}
use Rattle.rules.specs.declared.Chip.{Chip}
use Rattle.rules.specs.declared.Range.{Range}
use Rattle.rules.specs.declared.Rest.{Rest}
use Rattle.rules.specs.declared.Tear.{Tear}
use Rattle.rules.specs.declared.Work.{Work}
use Rattle.rules.specs.declared.Work.TheVariants.{Nothing, ProgramPage}
use Rattle.rules.specs.Words.{bit, num, pick, holds, nowhere, Lent}
use Rattle.rules.specs.Works.{is_nothing, array_range, all, finish}
use Rattle.rules.specs.Blocks.{block_at, write_locked}
use Rattle.rules.specs.Registers.{busy, wse, wsp, status}
use Rattle.rules.specs.Frames.{frames, find, form_of, listed, address}
use Rattle.rules.specs.Programs.{blank, page_buffer}
use Rattle.rules.specs.Reading.{shown}
use Rattle.rules.specs.Fields.{chip_of, with_enable, with_wel, with_running}
use Rattle.rules.specs.Commands.{rested}
use Rattle.rules.specs.Numbers.{State, Frame, state_right, malformed, empty_frame, wrong_length_lem, beside_erase, suspension, frame_tests, command_tests}
use Rattle.rules.specs.Machine.{Outcome, Event, sends, worked_array_lem, worked_security_lem, frame, completion, step, left}
use Rattle.rules.specs.Cases.{state_after}
use Rattle.rules.specs.Promises.{zeroed, carried_of, frame_of}
use Rattle.rules.proofs.Bools.{or_none, or_right}
use Rattle.rules.proofs.Blocks.{holds_at}
use Rattle.rules.proofs.Refusals.{frame_done_whole, frame_refused_more, completion_done_whole}
use Rattle.rules.proofs.Numbers.{frame_given, completion_given}
use Rattle.rules.proofs.TornBytes.{finish_same}
use Rattle.rules.proofs.Quick.{after_right}
use Rattle.stations.specs.Plans.{program_at}
use Rattle.stations.specs.Calls.{short}
use Rattle.stations.specs.Records.{used}
use Rattle.stations.proofs.Programmed.{programmed, list_block, frame_to}

-- ---- every event keeps a right state

pub step_right : (s : State) (e : Event) → state_right s ≡ true → state_right (left (step s e)) ≡ true
unfolding state_after
step_right s e r = after_right s (e ∷ []) r

-- ---- what is asked of a state: right, in SPI; and idle

pub record Wired (s : State) : Type 0 where
  pub right : state_right s ≡ true
  pub spi : s.chip.rest.flags.sqi ≡ false

pub record Ready (s : State) : Type 0 where
  pub right : state_right s ≡ true
  pub spi : s.chip.rest.flags.sqi ≡ false
  pub idle : s.chip.rest.works.running ≡ Nothing

-- ---- tests of a frame that names one opcode

-- beside nothing: a frame that neither erases nor programs
pub beside_none : (a b : Bool) → (a && false || b && false) ≡ false
beside_none true true = refl
beside_none true false = refl
beside_none false true = refl
beside_none false false = refl

abbrev pub framed : List ℕ → Frame
framed bytes = frame_of (carried_of bytes (0 ∷ []) (0 ∷ []) zeroed)

abbrev pub state_of : Chip → Lent → Lent → State
state_of c array security = record { chip = c; array = array; security = security }

-- ---- 05

poll_number : (s : State) → Wired s → (frame s (framed (0x05 ∷ []))).number ≡ 0
unfolding frame_tests command_tests form_of find frames
poll_number s h =
    (frame_given s (framed (0x05 ∷ []))).is_0.1
    (rw h.right, (refl, (rw h.spi, (rw h.spi, (and-false (busy s.chip.rest), (refl, (refl, (refl, (beside_none (wse s.chip.rest) (wsp s.chip.rest), (refl, (refl, (refl, tt))))))))))))

pub record Polled (s : State) (o : Outcome) : Type 0 where
  pub number : o.number ≡ 0
  pub state : left o ≡ used s
  pub reads : bit 0 (o.reply.byte 0) ≡ busy s.chip.rest

-- bit 0 of the status is BUSY
status_busy : (r : Rest) → bit 0 (status r) ≡ busy r
unfolding bit
status_busy r = go (busy r) (num r.flags.wel) (num (wse r)) (num (wsp r)) (num r.flags.wpld) (num r.flags.sec)
  where
    go : (b : Bool) (w e p l s : ℕ) → eqb ((num b + 2 * w + 4 * e + 8 * p + 16 * l + 32 * s + 128 * num b) / 2 ^ 0 % 2) 1 ≡ b
    go true w e p l s = eq-eqb ((1 + 2 * w + 4 * e + 8 * p + 16 * l + 32 * s + 128 * 1) / 2 ^ 0 % 2) 1 (omega arith)
    go false w e p l s = ne_eqb ((0 + 2 * w + 4 * e + 8 * p + 16 * l + 32 * s + 128 * 0) / 2 ^ 0 % 2) 1 (λ h. omega arith)

pub poll : (s : State) → Wired s → Polled s (step s (short (0x05 ∷ [])))
unfolding step form_of find frames shown worked_array_lem worked_security_lem
poll s h =
    let e = frame_done_whole s (framed (0x05 ∷ [])) (poll_number s h) in
    record { number = poll_number s h; state = ap left e; reads = ap (λ (o : Outcome). bit 0 (o.reply.byte 0)) e ∙ status_busy s.chip.rest }

-- where no 99 is taken next a poll changes nothing at all
pub poll_leaves : (s : State) → s.chip.rest.flags.enable ≡ false → used s ≡ s
poll_leaves s e = ap (λ (b : Bool). state_of (chip_of s.chip.buffer (with_enable b s.chip.rest)) s.array s.security) (sym e)

-- ---- 06

abbrev pub latched : State → State
latched s = state_of (chip_of s.chip.buffer (with_wel true (with_enable false s.chip.rest))) s.array s.security

latch_number : (s : State) → Ready s → (frame s (framed (0x06 ∷ []))).number ≡ 0
unfolding frame_tests command_tests form_of find frames
latch_number s h =
    (frame_given s (framed (0x06 ∷ []))).is_0.1
    (rw h.right, (refl, (rw h.spi, (rw h.spi, (rw h.idle, (refl, (refl, (refl, (beside_none (wse s.chip.rest) (wsp s.chip.rest), (refl, (refl, (refl, tt))))))))))))

pub latch : (s : State) → Ready s → ((step s (short (0x06 ∷ []))).number ≡ 0) × (left (step s (short (0x06 ∷ []))) ≡ latched s)
unfolding step form_of find frames worked_array_lem worked_security_lem
latch s h = (latch_number s h, ap left (frame_done_whole s (framed (0x06 ∷ [])) (latch_number s h)))

pub latched_ready : (s : State) → Ready s → Ready (latched s)
latched_ready s h = record { right = subst (λ (t : State). state_right t ≡ true) (latch s h).1 (step_right s (short (0x06 ∷ [])) h.right); spi = h.spi; idle = h.idle }

-- ---- the list's 64 KB are one block

one_lock : (x q : ℕ) → q < 65536 → write_locked x (0x10000 + q) ≡ write_locked x 0x10000
unfolding write_locked
one_lock x q h = ap (λ (n : ℕ). bit (block_at n).write x) (list_block q h ∙ sym (list_block 0 (omega arith)))

-- ---- 02, with WEL 1, in SPI, idle: 8, 11 or done

-- a 02 at a place of the list that does not lie in the range r
pub data Programs (r : Range) : List ℕ → Type 0 where
  programs : (p b : ℕ) (bytes : List ℕ) → p < 65536 → length bytes < 65532 → holds r (0x10000 + p) ≡ false → Programs r (program_at p (b ∷ bytes))

-- the work that it begins
abbrev pub page_of : List ℕ → Work
page_of f = ProgramPage (address f / 256)

abbrev pub begun : List ℕ → State → State
begun f s = state_of (chip_of (page_buffer f) (with_running (page_of f) (with_enable false s.chip.rest))) s.array s.security

module _ (s : State) (h : Ready s) (wel : s.chip.rest.flags.wel ≡ true) (p b : ℕ) (bytes : List ℕ) (low : p < 65536) (few : length bytes < 65532) where
  abbrev sent : List ℕ
  sent = program_at p (b ∷ bytes)

  formed : malformed s (framed sent) ≡ false
  formed = rw (h.right, le-leb (length sent) 65536 (omega arith))

  some : empty_frame sent ≡ false
  some = ne_eqb (length sent) 0 (λ e. omega arith)

  sized : wrong_length_lem s.chip.rest 0x02 sent ≡ false
  unfolding form_of find frames
  sized = rw h.spi (ap not (long (length bytes)))
    where
      long : (n : ℕ) → (eqb (suc (suc (suc (suc (suc n))))) 5 || ltb 5 (suc (suc (suc (suc (suc n)))))) ≡ true
      long zero = refl
      long (suc n) = or_right (eqb (suc (suc (suc (suc (suc (suc n)))))) 5) (ltb 5 (suc (suc (suc (suc (suc (suc n))))))) (lt-ltb 5 (suc (suc (suc (suc (suc (suc n)))))) (omega arith))

  -- 8 exactly by the suspension, 11 exactly by the list's write lock
  pub program_number : (step s (short sent)).number ≡ pick (suspension s.chip.rest 0x02 sent) 8 (pick (write_locked s.chip.rest.locks.protection 0x10000) 11 0)
  unfolding step frame frame_tests command_tests form_of find frames
  program_number =
      λ i.
      pick (formed i) 1 (pick (some i) 2 (pick (not (listed (h.spi i) (form_of 0x02))) 3 (pick (sized i) 4 (pick (not (is_nothing (h.idle i)) && true) 5
      (pick (suspension s.chip.rest 0x02 sent) 8 (pick (not (wel i)) 9 (pick (locked i) 11 0)))))))
    where
      locked : (write_locked s.chip.rest.locks.protection (address sent) || false) ≡ write_locked s.chip.rest.locks.protection 0x10000
      locked = or_none _ ∙ ap (write_locked s.chip.rest.locks.protection) (frame_to p (b ∷ bytes) low) ∙ one_lock s.chip.rest.locks.protection p low

  -- with WSP 1, wherever it goes
  pub program_8 : wsp s.chip.rest ≡ true → (step s (short sent)).number ≡ 8
  program_8 w =
      let beside : suspension s.chip.rest 0x02 sent ≡ true = rw w (or_right (beside_erase s.chip.rest 0x02 sent) true refl) in
      program_number ∙ ap (λ (x : Bool). pick x 8 (pick (write_locked s.chip.rest.locks.protection 0x10000) 11 0)) beside

  -- with WSP 0, outside a suspended range
  pub program_past_8 : wsp s.chip.rest ≡ false → holds (array_range s.chip.rest.works.suspended) (0x10000 + p) ≡ false
      → (step s (short sent)).number ≡ pick (write_locked s.chip.rest.locks.protection 0x10000) 11 0
  program_past_8 page apart =
      let beside : suspension s.chip.rest 0x02 sent ≡ false = rw (page, frame_to p (b ∷ bytes) low, apart) (or_none _ ∙ and-false (wse s.chip.rest)) in
      program_number ∙ ap (λ (x : Bool). pick x 8 (pick (write_locked s.chip.rest.locks.protection 0x10000) 11 0)) beside

-- done: it runs
pub begins : (s : State) (p b : ℕ) (bytes : List ℕ) → (step s (short (program_at p (b ∷ bytes)))).number ≡ 0
    → left (step s (short (program_at p (b ∷ bytes)))) ≡ begun (program_at p (b ∷ bytes)) s
unfolding step form_of find frames worked_array_lem worked_security_lem
begins s p b bytes e = ap left (frame_done_whole s (framed (program_at p (b ∷ bytes))) e)

-- refused: the enable is used up
pub refuses : (s : State) (f : Frame) (n : ℕ) → 3 ≤ n → (step s (sends f)).number ≡ n → left (step s (sends f)) ≡ used s
unfolding step
refuses s f n h e = ap left (frame_refused_more s f n h e)

-- ---- its completion

pub finish_nowhere : (w : Work) (b : List ℕ) (t : Tear) (mem : Lent) → finish w nowhere b t mem ≡ mem
finish_nowhere w b t mem = finish_same w nowhere b t mem (λ a h. let k = holds_at nowhere a h in absurd (omega arith))

abbrev pub ended : List ℕ → State → State
ended f s = state_of (chip_of blank (with_running Nothing (with_wel false (with_enable false s.chip.rest)))) (programmed f s.array) s.security

pub completes_page : (s : State) (f : List ℕ) → state_right (begun f s) ≡ true → wsp s.chip.rest ≡ false
    → ((completion (begun f s)).number ≡ 0) × (left (completion (begun f s)) ≡ ended f s)
completes_page s f r w = (number, ap left (completion_done_whole (begun f s) number) ∙ (λ i. state_of (chip_of (pick (w i) (page_buffer f) blank) (rested (begun f s).chip.rest)) (programmed f s.array) (security i)))
  where
    number : (completion (begun f s)).number ≡ 0
    number = (completion_given (begun f s)).is_0.1 (r, refl)

    security : finish (page_of f) nowhere (page_buffer f) all s.security ≡ s.security
    security = finish_nowhere (page_of f) (page_buffer f) all s.security
