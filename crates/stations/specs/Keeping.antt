-- 02, W-206: what a call leaves of the list: done, refused, or cut at any moment. Proved in proofs/Keeping, Cuts and Events.
use Rattle.std.specs.Prelude.{ℕ, ◌+◌, ◌-◌, ◌/◌, ◌%◌, ◌≤◌, ◌<◌, ◌≡◌, Bool, true, false, ◌&&◌, ◌||◌, List, [], ◌∷◌, ◌⊎◌, eqb, ltb, leb, length, get_or, take}
use Rattle.rules.specs.declared.Work.TheVariants.{Nothing}
use Rattle.rules.specs.Words.{pick, one_of, range, holds, Lent, Each}
use Rattle.rules.specs.Works.{array_range, tear_of}
use Rattle.rules.specs.Reading.{known, unknown, place_cell}
use Rattle.rules.specs.Numbers.{State}
use Rattle.rules.specs.Machine.{Event, completes, step, left, power_cut}
use Rattle.rules.specs.Tears.{OfBytes}
use Rattle.stations.specs.Slots.{Shown, slot_size, slot_count, data_size, those_from, live_of, slot_of, bytes_of, found, free_slot}
use Rattle.stations.specs.Plans.{program_at}
use Rattle.stations.specs.Calls.{Script, played, moments, made, short, reading, list_size, store_call, lookup_call}
use Rattle.stations.specs.Given.{store_account}

abbrev pub list_start : ℕ
list_start = 0x10000

-- what a read of the list shows in a state
unfoldable pub shown_at : State → Shown
shown_at s p =
    pick (ltb p list_size) (place_cell s.chip.rest.locks.protection (array_range s.chip.rest.works.suspended) s.array (list_start + p)) unknown

-- ---- the list after the first w writes of a store: number and data, the mark, then the other marks of that number, lowest first

-- the other live slots whose marks are cleared by then
abbrev pub cleared_by : Shown → ℕ → ℕ → List ℕ
cleared_by v n w = take (w - 2) (those_from (live_of v n) 0 slot_count)

unfoldable pub after_writes : Shown → ℕ → List ℕ → ℕ → Shown
after_writes v n bytes w p =
    let i = p / slot_size in
    let j = p % slot_size in
    pick (leb 1 w && eqb i (free_slot v) && leb 2 j) (known (get_or (n / 256 % 256 ∷ n % 256 ∷ bytes) (j - 2) 0))
    (pick (leb 2 w && eqb i (free_slot v)) (known (get_or (0x53 ∷ 0x54 ∷ []) j 0))
    (pick (one_of i (cleared_by v n w) && ltb j 2) (known 0x00) (v p)))

-- a number and data as the types have them
pub record Storable (n : ℕ) (bytes : List ℕ) : Type 0 where
  pub number : n < 65536
  pub each : Each (λ (b : ℕ). b < 256) bytes

-- ---- every call, done or refused: the list afterwards is exactly that of the writes that are completed

abbrev pub StoreLeaves : Type 0
StoreLeaves =
    (s : State) (reply marks : Lent) (n : ℕ) (bytes : List ℕ) (allowance : ℕ) (list : List ℕ) → OfBytes s.array → Storable n bytes
    → (p : ℕ) → p < list_size
    → shown_at (played s (store_call reply marks n bytes allowance list)).state p
    ≡ after_writes (shown_at s) n bytes (store_account s reply marks n bytes allowance list).writes p

-- ---- "After a done store, lookup of that number gives the data and every other number what it gave before"

pub record Keeps (s t : State) (n : ℕ) (bytes : List ℕ) : Type 0 where
  pub itself : found (shown_at t) n ≡ bytes
  pub others : (q : ℕ) → (q ≡ n → ⊥) → found (shown_at t) q ≡ found (shown_at s) q

abbrev pub StoreKeeps : Type 0
StoreKeeps =
    (s : State) (reply marks : Lent) (n : ℕ) (bytes : List ℕ) (allowance : ℕ) (list : List ℕ) → OfBytes s.array → Storable n bytes
    → let e = played s (store_call reply marks n bytes allowance list) in e.number ≡ 0 → Keeps s e.state n bytes

-- ---- a refused call: before the mark is written every lookup is as before; after it the others are, and the station itself gives the first of its live slots that is left

-- the first live slot of the number whose mark is not cleared by then, 2,048 where there is none
abbrev pub next_live_lem : Shown → ℕ → ℕ → ℕ
next_live_lem v n w = get_or (those_from (live_of v n) 0 slot_count) (w - 2) slot_count

pub record RefusedLeaves (s t : State) (n : ℕ) (bytes : List ℕ) (w : ℕ) : Type 0 where
  pub before_mark : w < 2 → (q : ℕ) → found (shown_at t) q ≡ found (shown_at s) q
  pub others : (q : ℕ) → (q ≡ n → ⊥) → found (shown_at t) q ≡ found (shown_at s) q
  pub itself : 2 ≤ w
      → found (shown_at t) n
      ≡ pick (ltb (free_slot (shown_at s)) (next_live_lem (shown_at s) n w)) bytes (bytes_of (shown_at s) (next_live_lem (shown_at s) n w) 4 data_size)

abbrev pub StoreRefused : Type 0
StoreRefused =
    (s : State) (reply marks : Lent) (n : ℕ) (bytes : List ℕ) (allowance : ℕ) (list : List ℕ) → OfBytes s.array → Storable n bytes
    → RefusedLeaves s (played s (store_call reply marks n bytes allowance list)).state n bytes (store_account s reply marks n bytes allowance list).writes

-- ---- a power cut at any moment of a store, of any k and m

abbrev pub Among : State → List State → Type 0
Among t [] = ⊥
Among t (u ∷ us) = (t ≡ u) ⊎ Among t us

-- nothing running or suspended
pub record AtRest (s : State) : Type 0 where
  pub idle : s.chip.rest.works.running ≡ Nothing
  pub none_suspended : s.chip.rest.works.suspended ≡ Nothing
  pub of_bytes : OfBytes s.array

-- what lookup gives of the station itself, where v was shown before and x is shown now: the new data, or that of a slot that was live of its number; or it had none and has none
pub data OneOfItsOwn (v x : Shown) (n : ℕ) (bytes : List ℕ) : Type 0 where
  its_new : slot_of x n < slot_count → found x n ≡ bytes → OneOfItsOwn v x n bytes
  its_earlier : (i : ℕ) → i < slot_count → live_of v n i ≡ true → slot_of x n < slot_count → found x n ≡ bytes_of v i 4 data_size → OneOfItsOwn v x n bytes
  still_none : slot_of v n ≡ slot_count → slot_of x n ≡ slot_count → OneOfItsOwn v x n bytes

pub record CutKeeps (s t : State) (n : ℕ) (bytes : List ℕ) : Type 0 where
  pub others : (q : ℕ) → (q ≡ n → ⊥) → found (shown_at t) q ≡ found (shown_at s) q
  pub one_of_its_own : OneOfItsOwn (shown_at s) (shown_at t) n bytes
  pub never_lost : slot_of (shown_at s) n < slot_count → slot_of (shown_at t) n < slot_count
  -- old or new, where it had at most one live slot
  pub itself : length (those_from (live_of (shown_at s) n) 0 slot_count) ≤ 1
      → (found (shown_at t) n ≡ found (shown_at s) n) ⊎ (found (shown_at t) n ≡ bytes)

-- of any m, below 256 or not: a torn byte of a program is the old one AND something, so the bytes that are not sent stay, and no more is asked of those that are
abbrev pub StoreCut : Type 0
StoreCut =
    (s t : State) (reply marks : Lent) (n : ℕ) (bytes : List ℕ) (allowance : ℕ) (list : List ℕ) (k m : ℕ) → Storable n bytes → AtRest s
    → Among t (moments s (store_call reply marks n bytes allowance list))
    → CutKeeps s (left (power_cut t (tear_of k m))) n bytes

-- ---- "The store never writes outside 010000 to 01FFFF, and never more than the slots it names": the first empty one and the live ones of the number

abbrev pub named : Shown → ℕ → ℕ → Bool
named v n i = eqb i (free_slot v) || live_of v n i

abbrev pub may_change : Shown → ℕ → ℕ → Bool
may_change v n a = holds (range list_start list_size) a && named v n ((a - list_start) / slot_size)

pub record Stays (v : Shown) (n : ℕ) (s t : State) : Type 0 where
  pub array : (a : ℕ) → may_change v n a ≡ false → t.array.byte a ≡ s.array.byte a
  pub security : t.security ≡ s.security

-- at each moment
abbrev pub StoreStays : Type 0
StoreStays =
    (s t : State) (reply marks : Lent) (n : ℕ) (bytes : List ℕ) (allowance : ℕ) (list : List ℕ) → OfBytes s.array
    → Among t (moments s (store_call reply marks n bytes allowance list)) → Stays (shown_at s) n s t

-- and after a power cut there, where nothing ran or was suspended at the start
abbrev pub CutStays : Type 0
CutStays =
    (s t : State) (reply marks : Lent) (n : ℕ) (bytes : List ℕ) (allowance : ℕ) (list : List ℕ) (k m : ℕ) → AtRest s
    → Among t (moments s (store_call reply marks n bytes allowance list))
    → Stays (shown_at s) n s (left (power_cut t (tear_of k m)))

-- ---- "sends only frames (03, 06, 02, 05, of SPI length)": those of the read, of a write and of a poll, and completions between them

pub data OfStore : Event → Type 0 where
  a_read : (reply marks : Lent) → OfStore (reading reply marks)
  a_latch : OfStore (short (0x06 ∷ []))
  a_write : (p : ℕ) (b : ℕ) (bytes : List ℕ) → OfStore (short (program_at p (b ∷ bytes)))
  a_poll : OfStore (short (0x05 ∷ []))
  a_completion : OfStore completes

pub record SendsOnly (s : State) (call : Script) : Type 0 where
  pub events : Each OfStore (made s call)

abbrev pub CallsSendOnly : Type 0
CallsSendOnly =
    (s : State) (reply marks : Lent) (n : ℕ) (bytes : List ℕ) (allowance : ℕ) (list buffer : List ℕ)
    → SendsOnly s (store_call reply marks n bytes allowance list) × SendsOnly s (lookup_call reply marks n buffer)

-- a call is the run of its events: so demands 2 and 3 speak of calls too
abbrev pub last_of : State → List Event → State
last_of s [] = s
last_of s (e ∷ es) = last_of (left (step s e)) es

abbrev pub CallsAreRuns : Type 0
CallsAreRuns = (s : State) (call : Script) → (played s call).state ≡ last_of s (made s call)

-- and its moments are the states before, between and after them
abbrev pub along : State → List Event → List State
along s [] = s ∷ []
along s (e ∷ es) = s ∷ along (left (step s e)) es

abbrev pub MomentsAreRuns : Type 0
MomentsAreRuns = (s : State) (call : Script) → moments s call ≡ along s (made s call)
