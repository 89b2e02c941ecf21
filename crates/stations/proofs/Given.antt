-- Which number a call gets, and what it leaves: the tests of the definitions taken in their order, the read by its law, and the writes by theirs. Assumes nothing.
use Prim.Native.Nat.{ℕ, ◌<◌}
use mathlib.Core.Path.{◌≡◌, refl, sym, ap, ◌∙◌, subst, subst₂}
use mathlib.Core.Bool.{Bool, true, false, not, ◌&&◌}
use mathlib.Core.List.{List, [], ◌∷◌}
use mathlib.Core.Logic.{◌⊎◌, inl, inr}
use native.Mathlib.Omega.{arith}
use lib.Dec.{eqb, ltb, leb}
use lib.ListN.{length, get_or, take}
use borrow.Author.Tests.{eqb-true, eqb-false, ltb-true}
use Rattle.rules.specs.declared.Rest.{Rest}
use Rattle.rules.specs.Words.{pick, Lent}
use Rattle.rules.specs.Blocks.{write_locked}
use Rattle.rules.specs.Registers.{wsp}
use Rattle.rules.specs.Numbers.{State, state_right}
use Rattle.rules.specs.Machine.{Outcome, step, left}
use Rattle.rules.proofs.Bools.{and_split}
use Rattle.stations.specs.Slots.{Shown, slot_count, those_from, live_of, slot_of, free_slot}
use Rattle.stations.specs.Plans.{refused, writing, mark_frame, record_frame, clearings, storing_at, storing, looking_up}
use Rattle.stations.specs.Calls.{ends, Ended, ended_of, played, writes, reading, shown_by, list_size, carried_out, calling, buffers_right, store_right, lookup_right, store_call, lookup_call}
use Rattle.stations.specs.Given.{completed, polls_from, Account, account_of, at, write_count, writes_account, store_account, lookup_number, LookupGiven, StoreGiven}
use Rattle.stations.specs.Keeping.{shown_at}
use Rattle.stations.specs.Records.{used, SameRecord, chip_left, store_frames}
use Rattle.stations.proofs.Programmed.{programmed_all}
use Rattle.stations.proofs.Torn.{frame_count}
use Rattle.stations.proofs.Frames.{step_right, Ready}
use Rattle.stations.proofs.Reading.{read_ready, read_leaves, read_keeps, refused_chip, read_shows}
use Rattle.stations.proofs.Polls.{Always, always_ends, always_does}
use Rattle.stations.proofs.Writes.{Written}
use Rattle.stations.proofs.Outcomes.{writes_given, writes_moments}
use Rattle.stations.proofs.Targets.{plan_reaches}

-- ---- lookup

pub lookup_given : LookupGiven
unfolding lookup_call calling looking_up lookup_number played writes
lookup_given s reply marks n buffer = go (lookup_right reply marks buffer)
  where
    o : Outcome
    o = step s (reading reply marks)

    shows : (x y : Bool) → played (left o) (pick x (carried_out 0 [] (pick y (writing []) (refused 17))) (ends o.number 0)) ≡ ended_of (pick (not x) o.number (pick (not y) 17 0)) 0 (left o)
    shows true true = refl
    shows true false = refl
    shows false y = refl

    go : (b : Bool) → played s (calling b reply marks 0 [] (λ v. looking_up v n))
        ≡ ended_of (pick (not b) 1 (pick (not (eqb o.number 0)) o.number (pick (not (ltb (slot_of (shown_by o) n) slot_count)) 17 0))) 0 (pick b (left o) s)
    go true = shows (eqb o.number 0) (ltb (slot_of (shown_by o) n) slot_count)
    go false = refl

-- ---- store

-- the read leaves a chip that is ready as it was
polled_ready : (s : State) (reply marks : Lent) → (step s (reading reply marks)).number ≡ 0 → Ready (used s)
polled_ready s reply marks e =
    let h = read_ready s reply marks e in
    record { right = subst (λ (t : State). state_right t ≡ true) (read_leaves s reply marks e) (step_right s (reading reply marks) h.right); spi = h.spi; idle = h.idle }

-- what the read holds on to, done or refused
pub held : {A : Type 0} (g : State → A) (s t : State) → g (used s) ≡ g s → (t ≡ s) ⊎ (t ≡ used s) → g t ≡ g s
held g s t h (inl e) = ap g e
held g s t h (inr e) = ap g e ∙ h

pub early_same : (s t : State) → (t ≡ s) ⊎ (t ≡ used s) → SameRecord s t
early_same s t (inl e) = subst (SameRecord s) (sym e) (record { rest = refl; security = refl })
early_same s t (inr e) = subst (SameRecord s) (sym e) (record { rest = refl; security = refl })

-- what is asked of a store before anything is sent
pub record Asked (reply marks : Lent) (bytes : List ℕ) (allowance : ℕ) : Type 0 where
  pub reply_size : reply.size ≡ list_size
  pub marks_size : marks.size ≡ list_size
  pub count : length bytes ≡ 28

pub store_asked : (reply marks : Lent) (bytes : List ℕ) (allowance : ℕ) → store_right reply marks bytes allowance ≡ true → Asked reply marks bytes allowance
store_asked reply marks bytes allowance r =
    let h₂ = and_split (buffers_right reply marks && eqb (length bytes) 28) (leb allowance 65535) r in
    let h₁ = and_split (buffers_right reply marks) (eqb (length bytes) 28) h₂.0 in
    let h₀ = and_split (eqb reply.size list_size) (eqb marks.size list_size) h₁.0 in
    record { reply_size = eqb-true reply.size list_size h₀.0; marks_size = eqb-true marks.size list_size h₀.1; count = eqb-true (length bytes) 28 h₁.1 }

-- what a store comes to, by an account: its number and its polls, the array with its completed writes, and the rest as it was
pub record Stored (s : State) (n : ℕ) (bytes : List ℕ) (x : Account) (e : Ended) : Type 0 where
  pub number : e.number ≡ x.number
  pub polls : e.polls ≡ x.polls
  pub array : e.state.array ≡ programmed_all (take x.writes (store_frames s n bytes)) s.array
  pub same : SameRecord s e.state
  -- a write is made only where there is room
  pub room : (x.writes ≡ 0) ⊎ ((free_slot (shown_at s) < slot_count) × (length bytes ≡ 28))
  -- a done store made all its writes
  pub done : x.number ≡ 0 → x.writes ≡ write_count (shown_at s) n
  pub chip : e.state.chip ≡ chip_left s.chip x.number (get_or (store_frames s n bytes) x.writes [])

all_made : (r : Rest) (c allowance : ℕ) (list : List ℕ) → (writes_account r c allowance list).number ≡ 0 → (writes_account r c allowance list).writes ≡ c
all_made r c allowance list = go (wsp r) (write_locked r.locks.protection 0x10000) (eqb w c) refl
  where
    w : ℕ
    w = completed allowance list 0 c

    go : (x y z : Bool) → eqb w c ≡ z
        → let a = pick x (at 8) (pick y (at 11) (account_of (pick z 0 18) (polls_from allowance list 0 c) w)) in
        a.number ≡ 0 → a.writes ≡ c
    go true y z e h = absurd (omega arith)
    go false true z e h = absurd (omega arith)
    go false false true e h = eqb-true w c e
    go false false false e h = absurd (omega arith)

-- writes leave the same chip, whether the enable was used up before them or not
enabled_no_more : (s : State) (c allowance : ℕ) (list f : List ℕ) → let k = (writes_account s.chip.rest c allowance list).number in chip_left (used s).chip k f ≡ chip_left s.chip k f
enabled_no_more s c allowance list f = go (wsp s.chip.rest) (write_locked s.chip.rest.locks.protection 0x10000) (eqb w c)
  where
    w : ℕ
    w = completed allowance list 0 c

    go : (x y z : Bool) → let k = (pick x (at 8) (pick y (at 11) (account_of (pick z 0 18) (polls_from allowance list 0 c) w))).number in chip_left (used s).chip k f ≡ chip_left s.chip k f
    go true y z = refl
    go false true z = refl
    go false false true = refl
    go false false false = refl

module _ (s : State) (reply marks : Lent) (n : ℕ) (bytes : List ℕ) (allowance : ℕ) (list : List ℕ) where
  abbrev o : Outcome
  o = step s (reading reply marks)

  -- it ends before its writes
  stopped : (k : ℕ) (t : State) → (k ≡ 0 → ⊥) → (t ≡ s) ⊎ (t ≡ used s) → t.chip ≡ chip_left s.chip k (get_or (store_frames s n bytes) 0 []) → Stored s n bytes (at k) (ended_of k 0 t)
  stopped k t some e c =
      record {
        number = refl;
        polls = refl;
        room = inl refl;
        done = λ z. absurd (some z);
        chip = c;
        array = held (λ (u : State). u.array) s t refl e;
        same = early_same s t e;
      }

  -- the plan, on the chip that the read leaves
  abbrev planned : Shown → Account
  planned v = pick (not (ltb (free_slot v) slot_count)) (at 16) (writes_account s.chip.rest (write_count v n) allowance list)

  carried : length bytes ≡ 28 → Ready (used s) → Stored s n bytes (planned (shown_at s)) (played (used s) (carried_out allowance list (storing (shown_at s) n bytes)))
  unfolding storing played
  carried size h = go (ltb (free_slot (shown_at s)) slot_count) refl
    where
      v : Shown
      v = shown_at s

      go : (b : Bool) → ltb (free_slot v) slot_count ≡ b
          → Stored s n bytes (pick (not b) (at 16) (writes_account s.chip.rest (write_count v n) allowance list)) (played (used s) (carried_out allowance list (pick b (writing (storing_at v n bytes (free_slot v))) (refused 16))))
      go false e = stopped 16 (used s) (λ z. omega arith) (inr refl) refl
      go true e =
          let low = ltb-true (free_slot v) slot_count e in
          let k = writes_given (used s) h (record_frame (free_slot v) n bytes) (mark_frame (free_slot v) 0x53 0x54 ∷ clearings (those_from (live_of v n) 0 slot_count)) allowance list (plan_reaches s n bytes size low) in
          subst (λ (c : ℕ). Stored s n bytes (writes_account s.chip.rest c allowance list) (played (used s) (writes allowance list 0 (store_frames s n bytes) 0))) (frame_count v n bytes (free_slot v))
          (record {
            number = k.number;
            polls = k.polls;
            array = k.array;
            same = record { security = k.kept.same.security; rest = k.kept.same.rest };
            room = inr (low, size);
            chip = k.chip ∙ enabled_no_more s (length (store_frames s n bytes)) allowance list _;
            done = λ z. all_made s.chip.rest (length (store_frames s n bytes)) allowance list z ∙ frame_count v n bytes (free_slot v);
          })

  pub store_came : Stored s n bytes (store_account s reply marks n bytes allowance list) (played s (store_call reply marks n bytes allowance list))
  unfolding store_call calling store_account played
  store_came = go (store_right reply marks bytes allowance) refl
    where
      taken : store_right reply marks bytes allowance ≡ true → (b : Bool) → eqb o.number 0 ≡ b
          → Stored s n bytes (pick (not b) (at o.number) (planned (shown_by o))) (played (left o) (pick b (carried_out allowance list (storing (shown_by o) n bytes)) (ends o.number 0)))
      taken r false e = stopped o.number (left o) (eqb-false o.number 0 e) (read_keeps s reply marks)
          (let a = store_asked reply marks bytes allowance r in refused_chip s reply marks a.reply_size a.marks_size (eqb-false o.number 0 e) (record_frame (free_slot (shown_at s)) n bytes))
      taken r true e =
          let a = store_asked reply marks bytes allowance r in
          let done = eqb-true o.number 0 e in
          subst₂ (λ (v : Shown) (t : State). Stored s n bytes (planned v) (played t (carried_out allowance list (storing v n bytes)))) (sym (read_shows s reply marks a.reply_size a.marks_size done)) (sym (read_leaves s reply marks done))
          (carried a.count (polled_ready s reply marks done))

      go : (b : Bool) → store_right reply marks bytes allowance ≡ b
          → Stored s n bytes (pick (not b) (at 1) (pick (not (eqb o.number 0)) (at o.number) (planned (shown_by o)))) (played s (calling b reply marks allowance list (λ v. storing v n bytes)))
      go false r = stopped 1 s (λ z. omega arith) (inl refl) refl
      go true r = taken r (eqb o.number 0) refl

pub store_given : StoreGiven
store_given s reply marks n bytes allowance list = let k = store_came s reply marks n bytes allowance list in (k.number, k.polls)

-- ---- each moment of a store: before its first write the state at its start or the one that the read leaves, and then a moment of its writes

pub data Moment (s : State) (n : ℕ) (bytes : List ℕ) (t : State) : Type 0 where
  early : (t ≡ s) ⊎ (t ≡ used s) → Moment s n bytes t
  late : Ready s → length bytes ≡ 28 → free_slot (shown_at s) < slot_count → Written s (store_frames s n bytes) t → Moment s n bytes t

-- the writes begin on the chip that the read leaves, which has the same memory and registers
from_start : (s t : State) (fs : List (List ℕ)) → Written (used s) fs t → Written s fs t
from_start s t fs k =
    record {
      writes = k.writes;
      within = k.within;
      array = k.array;
      kept = record { right = k.kept.right; spi = k.kept.spi; same = record { security = k.kept.same.security; rest = k.kept.same.rest } };
      doing = k.doing;
    }

module _ (s : State) (reply marks : Lent) (n : ℕ) (bytes : List ℕ) (allowance : ℕ) (list : List ℕ) where
  always_carried : Ready s → length bytes ≡ 28 → Ready (used s) → Always (Moment s n bytes) (used s) (carried_out allowance list (storing (shown_at s) n bytes))
  unfolding storing
  always_carried ready size h = go (ltb (free_slot (shown_at s)) slot_count) refl
    where
      v : Shown
      v = shown_at s

      go : (b : Bool) → ltb (free_slot v) slot_count ≡ b → Always (Moment s n bytes) (used s) (carried_out allowance list (pick b (writing (storing_at v n bytes (free_slot v))) (refused 16)))
      go false e = always_ends (Moment s n bytes) (used s) 16 0 (early (inr refl))
      go true e = λ t m.
          let low = ltb-true (free_slot v) slot_count e in
          late ready size low
          (from_start s t (store_frames s n bytes)
          (writes_moments (used s) h (record_frame (free_slot v) n bytes) (mark_frame (free_slot v) 0x53 0x54 ∷ clearings (those_from (live_of v n) 0 slot_count)) allowance list (plan_reaches s n bytes size low) 0 0 t m))

  pub store_moments : Always (Moment s n bytes) s (store_call reply marks n bytes allowance list)
  unfolding store_call calling
  store_moments = go (store_right reply marks bytes allowance) refl
    where
      x : Outcome
      x = step s (reading reply marks)

      taken : store_right reply marks bytes allowance ≡ true → (b : Bool) → eqb x.number 0 ≡ b
          → Always (Moment s n bytes) (left x) (pick b (carried_out allowance list (storing (shown_by x) n bytes)) (ends x.number 0))
      taken r false e = always_ends (Moment s n bytes) (left x) x.number 0 (early (read_keeps s reply marks))
      taken r true e =
          let a = store_asked reply marks bytes allowance r in
          let done = eqb-true x.number 0 e in
          subst₂ (λ (v : Shown) (t : State). Always (Moment s n bytes) t (carried_out allowance list (storing v n bytes))) (sym (read_shows s reply marks a.reply_size a.marks_size done)) (sym (read_leaves s reply marks done))
          (always_carried (read_ready s reply marks done) a.count (polled_ready s reply marks done))

      go : (b : Bool) → store_right reply marks bytes allowance ≡ b → Always (Moment s n bytes) s (calling b reply marks allowance list (λ v. storing v n bytes))
      go false r = always_ends (Moment s n bytes) s 1 0 (early (inl refl))
      go true r = always_does (Moment s n bytes) s (reading reply marks) _ (early (inl refl)) (taken r (eqb x.number 0) refl)
