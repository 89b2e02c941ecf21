-- 02, W-205, a reset in the middle of an erase: what k and m decide, and what they do not. Proved in proofs/Tears; cases are in CasesOfTears.
use Rattle.std.specs.Prelude.{ℕ, ◌-◌, ◌≤◌, ◌<◌, ◌≡◌, Bool, true, false, ◌&&◌, List, eqb, ltb, leb, length}
use Rattle.std.specs.Int.Bits.{bit_and}
use Rattle.rules.specs.declared.Range.{Range}
use Rattle.rules.specs.declared.Rest.{Rest}
use Rattle.rules.specs.declared.Tear.{Tear}
use Rattle.rules.specs.declared.Work.{Work}
use Rattle.rules.specs.Words.{bit, pick, holds, Lent, unlent}
use Rattle.rules.specs.Works.{is_nothing, is_erase, array_range, security_range, finished, torn, tear_of}
use Rattle.rules.specs.Registers.{busy}
use Rattle.rules.specs.Frames.{opcode}
use Rattle.rules.specs.Programs.{blank}
use Rattle.rules.specs.Fields.{chip_of, with_enable}
use Rattle.rules.specs.Commands.{after_reset}
use Rattle.rules.specs.Numbers.{State, Frame, state_right, first, cut_tests}
use Rattle.rules.specs.Machine.{Outcome, stops, frame, cut_chip_lem, power_cut, Event, step}

abbrev pub running : State → Work
running s = s.chip.rest.works.running

-- the same frame, with another k and m
abbrev pub with_tear : Tear → Frame → Frame
with_tear t f = record { sent = f.sent; reply = f.reply; marks = f.marks; circumstances = record { tear = t } }

-- what the type of a lent byte says
abbrev pub OfBytes : Lent → Type 0
OfBytes m = (a : ℕ) → m.byte a < 256

-- ---- an accepted 99: one byte, where the enable is set, in either protocol and whatever runs or is suspended

abbrev pub resets : Bool → Rest → List ℕ → ℕ → ℕ → Bool
resets right r sent y m = right && (leb (length sent) 65536 && leb y 65536 && eqb y m) && (eqb (length sent) 1 && eqb (opcode sent) 0x99 && r.flags.enable)

abbrev pub ResetExactly : Type 0
ResetExactly =
    (s : State) (f : Frame) → stops (frame s f).number f.sent ≡ resets (state_right s) s.chip.rest f.sent f.reply.size f.marks.size

-- ---- "used only by an accepted 99 while busy", and by a power cut while something runs

abbrev pub stops_work : State → Frame → Bool
stops_work s f = stops (frame s f).number f.sent && busy s.chip.rest

abbrev pub FrameUnused : Type 0
FrameUnused = (s : State) (f : Frame) (t : Tear) → stops_work s f ≡ false → frame s (with_tear t f) ≡ frame s f

abbrev pub CutUnused : Type 0
CutUnused = (s : State) (t u : Tear) → is_nothing (running s) ≡ true → power_cut s t ≡ power_cut s u

-- m, only where the range has a byte k: work with no range has none
abbrev pub Past : State → ℕ → Type 0
Past s k = ((array_range (running s)).size ≤ k) × ((security_range (running s)).size ≤ k)

pub record MaskUnused (s : State) (k m n : ℕ) : Type 0 where
  pub of_cut : power_cut s (tear_of k m) ≡ power_cut s (tear_of k n)
  pub of_frame : (f : Frame) → frame s (with_tear (tear_of k m) f) ≡ frame s (with_tear (tear_of k n) f)

abbrev pub PastTheEnd : Type 0
PastTheEnd = (s : State) (k m n : ℕ) → Past s k → MaskUnused s k m n

-- ---- nothing but the range of what runs changes

pub record OutsideStays (s : State) (o : Outcome) : Type 0 where
  pub array : (a : ℕ) → holds (array_range (running s)) a ≡ false → o.array.byte a ≡ s.array.byte a
  pub security : (a : ℕ) → holds (security_range (running s)) a ≡ false → o.security.byte a ≡ s.security.byte a

abbrev pub RangeAlone : Type 0
RangeAlone = (s : State) (e : Event) → OutsideStays s (step s e)

-- and of frames, only at an accepted 99 while busy
abbrev pub FramesLeave : Type 0
FramesLeave = (s : State) (f : Frame) → stops_work s f ≡ false → ((frame s f).array ≡ s.array) × ((frame s f).security ≡ s.security)

-- suspended work, also where another runs beside it: its target is unchanged
abbrev pub SuspendedStays : Type 0
SuspendedStays =
    (s : State) (e : Event) (a : ℕ) → state_right s ≡ true → holds (array_range s.chip.rest.works.suspended) a ≡ true
    → (step s e).array.byte a ≡ s.array.byte a

-- ---- document 01's power cut, and its reset: m FF for a program, m 00 for an erase; of the reset k is 0

-- "The running operation's range, in rising address order, has its first k bytes finished and the rest unchanged"
abbrev pub first_finished : Work → Range → List ℕ → ℕ → Lent → Lent
first_finished w r buffer k m =
    record { size = m.size; byte = λ a. pick (holds r a && ltb (a - r.start) k) (finished w buffer (a - r.start) (m.byte a)) (m.byte a) }

unfoldable pub cut_of01 : State → ℕ → Outcome
cut_of01 s k =
    let n = first (cut_tests s) in
    let w = running s in
    record {
      number = n;
      chip = cut_chip_lem n k s.chip;
      array = pick (eqb n 0) (first_finished w (array_range w) s.chip.buffer k s.array) s.array;
      security = pick (eqb n 0) (first_finished w (security_range w) s.chip.buffer k s.security) s.security;
      reply = unlent;
      marks = unlent;
    }

-- the m that leaves byte k as it was
abbrev pub clean_m : Work → ℕ
clean_m w = pick (is_erase w) 0x00 0xFF

abbrev pub cleanly : Work → ℕ → Tear
cleanly w k = tear_of k (clean_m w)

abbrev pub CutAs01 : Type 0
CutAs01 = (s : State) (k : ℕ) → OfBytes s.array → OfBytes s.security → power_cut s (cleanly (running s) k) ≡ cut_of01 s k

-- "running and suspended work dropped with its target unchanged"
pub record DropsAs01 (s : State) (o : Outcome) (sent : List ℕ) : Type 0 where
  pub array : o.array ≡ s.array
  pub security : o.security ≡ s.security
  pub chip : o.number ≡ 0 → opcode sent ≡ 0x99 → o.chip ≡ chip_of blank (after_reset (with_enable false s.chip.rest))

abbrev pub ResetAs01 : Type 0
ResetAs01 =
    (s : State) (f : Frame) → OfBytes s.array → OfBytes s.security → DropsAs01 s (frame s (with_tear (cleanly (running s) 0) f)) f.sent

-- ---- "Clear-only programming must still hold at such a place": the new byte AND the old one is the new byte

abbrev pub Clears : Lent → Lent → Type 0
Clears old new = (a : ℕ) → bit_and (new.byte a) (old.byte a) ≡ new.byte a

-- the array, unless an erase runs; the Security ID always
pub record ClearsOnly (s : State) (o : Outcome) : Type 0 where
  pub array : is_erase (running s) ≡ false → Clears s.array o.array
  pub security : Clears s.security o.security

abbrev pub ProgramsClear : Type 0
ProgramsClear = (s : State) (e : Event) → ClearsOnly s (step s e)

-- an erase only sets bits: the old byte AND the new one is the old byte
abbrev pub ErasesSet : Type 0
ErasesSet =
    (s : State) (e : Event) → is_erase (running s) ≡ true → OfBytes s.array
    → (a : ℕ) → bit_and (s.array.byte a) ((step s e).array.byte a) ≡ s.array.byte a

-- ---- a torn byte, bit by bit: that of the old byte or that of the finished one. m says where a program has not cleared yet, and where an erase has set already

abbrev pub TornBits : Type 0
TornBits =
    (w : Work) (buffer : List ℕ) (m i x n : ℕ) → n < 8
    → bit n (torn w buffer m i x)
    ≡ pick (is_erase w) (pick (bit n m) (bit n (finished w buffer i x)) (bit n x)) (pick (bit n m) (bit n x) (bit n (finished w buffer i x)))
