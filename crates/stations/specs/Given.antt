-- 02, W-206, "Refusals, in this order": which number a call gets, with how many polls, and how many of its writes are completed. Proved in proofs/Given, Polls and Exactly.
use Rattle.std.specs.Prelude.{ℕ, zero, suc, ◌+◌, ◌<◌, ◌≡◌, Bool, true, false, not, ◌&&◌, List, ◌↔◌, eqb, ltb, leb, length, get_or}
use Rattle.rules.specs.declared.Rest.{Rest}
use Rattle.rules.specs.Words.{pick, one_of, Lent}
use Rattle.rules.specs.Blocks.{write_locked}
use Rattle.rules.specs.Registers.{busy, wsp}
use Rattle.rules.specs.Numbers.{State, state_right}
use Rattle.rules.specs.Machine.{completion, left, step}
use Rattle.stations.specs.Slots.{Shown, slot_count, those_from, empty, live_of, slot_of, free_slot}
use Rattle.stations.specs.Calls.{Script, ended_of, played, polling, reading, shown_by, store_right, lookup_right, store_call, lookup_call}

-- ---- polls: "the place of the first poll that reads BUSY 0, or the allowance"

-- a write whose entry is e is completed within the allowance a
abbrev pub in_time : ℕ → ℕ → Bool
in_time a e = leb 1 e && leb e a

-- the closed form of polling, on a busy chip in SPI after a frame: it goes on from the completed chip, or ends with the write still running
abbrev pub PollingComesTo : Type 0
PollingComesTo =
    (s : State) (a e n : ℕ) (next : ℕ → Script)
    → state_right s ≡ true → s.chip.rest.flags.sqi ≡ false → s.chip.rest.flags.enable ≡ false → busy s.chip.rest ≡ true
    → played s (polling a 0 e n next) ≡ pick (in_time a e) (played (left (completion s)) (next (n + e))) (ended_of 18 (n + a) s)

-- ---- of c writes from entry j on: how many are completed, one after the other, and the polls of these and of the first that is not

unfoldable pub completed : ℕ → List ℕ → ℕ → ℕ → ℕ
completed a list j zero = 0
completed a list j (suc c) = pick (in_time a (get_or list j 0)) (suc (completed a list (suc j) c)) 0

unfoldable pub polls_from : ℕ → List ℕ → ℕ → ℕ → ℕ
polls_from a list j zero = 0
polls_from a list j (suc c) = pick (in_time a (get_or list j 0)) (get_or list j 0 + polls_from a list (suc j) c) a

-- ---- the numbers in their order

pub record Account : Type 0 where
  pub number : ℕ
  pub polls : ℕ
  -- the writes that are completed
  pub writes : ℕ

abbrev pub account_of : ℕ → ℕ → ℕ → Account
account_of number polls writes = record { number = number; polls = polls; writes = writes }

-- nothing was written
abbrev pub at : ℕ → Account
at number = account_of number 0 0

-- number and data, the mark, and the other live slots of the number
abbrev pub write_count : Shown → ℕ → ℕ
write_count v n = 2 + length (those_from (live_of v n) 0 slot_count)

-- the writes on a chip that took the read: 8 beside a suspended page program, 11 where the list's block is write-locked, both at the first 02; else 18 exactly if
-- a completion does not arrive within the allowance
abbrev pub writes_account : Rest → ℕ → ℕ → List ℕ → Account
writes_account r c allowance list =
    let w = completed allowance list 0 c in
    pick (wsp r) (at 8)
    (pick (write_locked r.locks.protection 0x10000) (at 11)
    (account_of (pick (eqb w c) 0 18) (polls_from allowance list 0 c) w))

unfoldable pub store_account : State → Lent → Lent → ℕ → List ℕ → ℕ → List ℕ → Account
store_account s reply marks n bytes allowance list =
    let o = step s (reading reply marks) in
    let v = shown_by o in
    pick (not (store_right reply marks bytes allowance)) (at 1)
    (pick (not (eqb o.number 0)) (at o.number)
    (pick (not (ltb (free_slot v) slot_count)) (at 16)
    (writes_account s.chip.rest (write_count v n) allowance list)))

unfoldable pub lookup_number : State → Lent → Lent → ℕ → List ℕ → ℕ
lookup_number s reply marks n buffer =
    let o = step s (reading reply marks) in
    pick (not (lookup_right reply marks buffer)) 1
    (pick (not (eqb o.number 0)) o.number
    (pick (not (ltb (slot_of (shown_by o) n) slot_count)) 17 0))

-- ---- the words of the slots: "the first empty slot", "no empty slot", "the first live slot of that number", "no such live slot", "each other live slot of that number, lowest first"

pub record SlotsExactly (v : Shown) (n : ℕ) : Type 0 where
  pub no_empty : (free_slot v ≡ slot_count) ↔ ((i : ℕ) → i < slot_count → empty v i ≡ false)
  pub first_empty : free_slot v < slot_count → (empty v (free_slot v) ≡ true) × ((i : ℕ) → i < free_slot v → empty v i ≡ false)
  pub no_live : (slot_of v n ≡ slot_count) ↔ ((i : ℕ) → i < slot_count → live_of v n i ≡ false)
  pub first_live : slot_of v n < slot_count → (live_of v n (slot_of v n) ≡ true) × ((i : ℕ) → i < slot_of v n → live_of v n i ≡ false)
  pub each_live : (i : ℕ) → (one_of i (those_from (live_of v n) 0 slot_count) ≡ true) ↔ ((i < slot_count) × (live_of v n i ≡ true))
  pub lowest_first : (j k : ℕ) → j < k → k < length (those_from (live_of v n) 0 slot_count) → get_or (those_from (live_of v n) 0 slot_count) j 0 < get_or (those_from (live_of v n) 0 slot_count) k 0

abbrev pub SlotsGiven : Type 0
SlotsGiven = (v : Shown) (n : ℕ) → SlotsExactly v n

-- ---- the statements

-- lookup makes no poll, and leaves what its read leaves; where it sends none, nothing changes
abbrev pub LookupGiven : Type 0
LookupGiven =
    (s : State) (reply marks : Lent) (n : ℕ) (buffer : List ℕ)
    → played s (lookup_call reply marks n buffer)
    ≡ ended_of (lookup_number s reply marks n buffer) 0 (pick (lookup_right reply marks buffer) (left (step s (reading reply marks))) s)

abbrev pub StoreGiven : Type 0
StoreGiven =
    (s : State) (reply marks : Lent) (n : ℕ) (bytes : List ℕ) (allowance : ℕ) (list : List ℕ)
    → let e = played s (store_call reply marks n bytes allowance list) in
    let x = store_account s reply marks n bytes allowance list in
    (e.number ≡ x.number) × (e.polls ≡ x.polls)
