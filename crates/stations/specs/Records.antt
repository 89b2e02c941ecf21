-- 02, W-206: what a call leaves of the chip's record, at each moment and at its end, and of the buffers that are lent with it. Proved in proofs/Records.
use Rattle.std.specs.Prelude.{ℕ, ◌/◌, ◌≡◌, true, false, not, List, [], ◌∷◌, ◌⊎◌, eqb, ltb, get_or}
use Rattle.rules.specs.declared.Chip.{Chip}
use Rattle.rules.specs.declared.Work.TheVariants.{Nothing, ProgramPage}
use Rattle.rules.specs.Words.{pick, one_of, Lent}
use Rattle.rules.specs.Works.{tear_of}
use Rattle.rules.specs.Registers.{busy}
use Rattle.rules.specs.Frames.{address}
use Rattle.rules.specs.Programs.{blank, page_buffer}
use Rattle.rules.specs.Fields.{chip_of, with_running, with_wel, with_enable}
use Rattle.rules.specs.Numbers.{State, state_right}
use Rattle.rules.specs.Machine.{left, step, power_cut}
use Rattle.stations.specs.Slots.{slot_count, slot_of, found, free_slot}
use Rattle.stations.specs.Plans.{storing_at}
use Rattle.stations.specs.Calls.{played, moments, reading, list_size, buffers_right, store_right, lookup_right, store_call, lookup_call}
use Rattle.stations.specs.Given.{Account, store_account, lookup_number}
use Rattle.stations.specs.Promises.{Came, stored, looked_up}
use Rattle.stations.specs.Keeping.{shown_at, Among}

-- the state with its enable used up
abbrev pub used : State → State
used s = record { chip = chip_of s.chip.buffer (with_enable false s.chip.rest); array = s.array; security = s.security }

-- ---- "a chip refusal of the read": 1 of a broken record or wrong memories, 3 in SQI, 5 while busy, in this order and no other

abbrev pub read_number_lem : State → ℕ
read_number_lem s = pick (not (state_right s)) 1 (pick s.chip.rest.flags.sqi 3 (pick (busy s.chip.rest) 5 0))

-- 1 changes nothing, and any other number, 0 too, uses up the enable and no more
pub record ReadGives (s : State) (reply marks : Lent) : Type 0 where
  pub number : (step s (reading reply marks)).number ≡ read_number_lem s
  pub state : left (step s (reading reply marks)) ≡ pick (state_right s) (used s) s

abbrev pub ReadGiven : Type 0
ReadGiven = (s : State) (reply marks : Lent) → buffers_right reply marks ≡ true → ReadGives s reply marks

-- ---- at each moment of a call

-- only the page buffer, what runs, WEL and the enable may differ from the start: both registers, what is suspended, SQI, IOC, WPEN, WPLD, SEC, the part and the
-- burst do not, and neither does the Security ID
pub record SameRecord (s t : State) : Type 0 where
  pub rest : t.chip.rest ≡ with_running t.chip.rest.works.running (with_wel t.chip.rest.flags.wel (with_enable t.chip.rest.flags.enable s.chip.rest))
  pub security : t.security ≡ s.security

abbrev pub StoreKeepsRecord : Type 0
StoreKeepsRecord =
    (s t : State) (reply marks : Lent) (n : ℕ) (bytes : List ℕ) (allowance : ℕ) (list : List ℕ)
    → Among t (moments s (store_call reply marks n bytes allowance list)) → SameRecord s t

-- a lookup changes nothing but the enable
abbrev pub LookupKeepsRecord : Type 0
LookupKeepsRecord =
    (s t : State) (reply marks : Lent) (n : ℕ) (buffer : List ℕ) → Among t (moments s (lookup_call reply marks n buffer)) → (t ≡ s) ⊎ (t ≡ used s)

-- ---- at the end of a store

-- by its number, and by the frame after its completed writes
abbrev pub chip_left : Chip → ℕ → List ℕ → Chip
chip_left c number frame =
    let r = with_enable false c.rest in
    -- done: nothing runs, and WEL is 0
    pick (eqb number 0) (chip_of blank (with_running Nothing (with_wel false r)))
    -- polls used up: the write runs, and WEL is 1
    (pick (eqb number 18) (chip_of (page_buffer frame) (with_running (ProgramPage (address frame / 256)) (with_wel true r)))
    -- the first 02 refused: nothing runs, and WEL is 1
    (pick (one_of number (8 ∷ 11 ∷ [])) (chip_of c.buffer (with_running Nothing (with_wel true r)))
    -- nothing sent, or the read refused with 1
    (pick (eqb number 1) c
    -- 3, 5 and 16: the enable is used up
    (chip_of c.buffer r))))

-- the frames of a store's writes
abbrev pub store_frames : State → ℕ → List ℕ → List (List ℕ)
store_frames s n bytes = storing_at (shown_at s) n bytes (free_slot (shown_at s))

-- where no write is completed the array is as before too
pub record RecordLeft (s : State) (n : ℕ) (bytes : List ℕ) (x : Account) (t : State) : Type 0 where
  pub chip : t.chip ≡ chip_left s.chip x.number (get_or (store_frames s n bytes) x.writes [])
  pub array : x.writes ≡ 0 → t.array ≡ s.array
  pub security : t.security ≡ s.security

abbrev pub StoreLeavesRecord : Type 0
StoreLeavesRecord =
    (s : State) (reply marks : Lent) (n : ℕ) (bytes : List ℕ) (allowance : ℕ) (list : List ℕ)
    → RecordLeft s n bytes (store_account s reply marks n bytes allowance list) (played s (store_call reply marks n bytes allowance list)).state

-- ---- the buffers of a call that is right and whose read is done

-- the read's two hold the list as it was at the start
pub record Reads (s : State) (c : Came) : Type 0 where
  pub reply : (p : ℕ) → c.reply.byte p ≡ (shown_at s p).byte
  pub marks : (p : ℕ) → c.marks.byte p ≡ (shown_at s p).mark
  pub reply_size : c.reply.size ≡ list_size
  pub marks_size : c.marks.size ≡ list_size

abbrev pub StoreReads : Type 0
StoreReads =
    (s : State) (reply marks : Lent) (n : ℕ) (bytes : List ℕ) (allowance : ℕ) (list : List ℕ) → store_right reply marks bytes allowance ≡ true → read_number_lem s ≡ 0
    → Reads s (stored s reply marks n bytes allowance list)

-- and lookup's own holds the data where it is done; "a refusal leaves its buffer unchanged"
pub record LookupFills (s : State) (reply marks : Lent) (n : ℕ) (buffer : List ℕ) : Type 0 where
  pub reads : lookup_right reply marks buffer ≡ true → read_number_lem s ≡ 0 → Reads s (looked_up s reply marks n buffer).came
  pub done : lookup_number s reply marks n buffer ≡ 0 → (looked_up s reply marks n buffer).buffer ≡ found (shown_at s) n
  pub refused : (lookup_number s reply marks n buffer ≡ 0 → ⊥) → (looked_up s reply marks n buffer).buffer ≡ buffer

abbrev pub LookupBuffers : Type 0
LookupBuffers = (s : State) (reply marks : Lent) (n : ℕ) (buffer : List ℕ) → LookupFills s reply marks n buffer

-- ---- after a power cut comes power-up: the read is done, and lookup gives what is found there

abbrev pub LookupAfterCut : Type 0
LookupAfterCut =
    (t : State) (k m : ℕ) (reply marks : Lent) (n : ℕ) (buffer : List ℕ) → state_right t ≡ true → lookup_right reply marks buffer ≡ true
    → let u = left (power_cut t (tear_of k m)) in
    (read_number_lem u ≡ 0) × (lookup_number u reply marks n buffer ≡ pick (ltb (slot_of (shown_at u) n) slot_count) 0 17)
