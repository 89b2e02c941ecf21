-- A call: 1 before anything is sent, the read, what it shows, and then the writes. By the definitions of a call. Assumes nothing.
use Prim.Native.Nat.{ℕ, zero, suc, ◌<◌, ◌^◌}
use mathlib.Core.Path.{◌≡◌, refl, sym, ap, ◌∙◌}
use mathlib.Core.Bool.{Bool, true, false, ◌&&◌, and-false}
use mathlib.Core.List.{List, []}
use native.Mathlib.Omega.{arith}
use lib.Dec.{eqb}
use lib.ListN.{length}
use borrow.Author.Tests.{eq-eqb, ne_eqb, lt-ltb, le-ltb, le-leb, lt-leb}
use Rattle.rules.specs.Words.{pick, Lent, lent}
use Rattle.rules.specs.Numbers.{State, answer_number}
use Rattle.rules.specs.Machine.{Outcome, step, left}
use Rattle.rules.specs.Promises.{Bench, Returned, zeroed, bench_of, carried_of, state_of, outcome_of, FramePromise}
use Rattle.stations.specs.declared.StoreRecord.{StoreRecord}
use Rattle.stations.specs.Slots.{Shown, shown_in, bytes_of, slot_of, found, free_slot}
use Rattle.stations.specs.Plans.{Plan, refused, writing, storing_at, storing, looking_up}
use Rattle.stations.specs.Calls.{Script, Ended, ended_of, played, on_done, writes, reading, shown_by, carried_out, calling, store_right, lookup_right, store_call, lookup_call}
use Rattle.stations.specs.Promises.{Desk, desk_of, state_at, Came, came_by, stored, looked_of, looked_up, StorePromise, LookupPromise}
use Rattle.store.specs.Steps.{read_frame, leaves}
use Rattle.store.proofs.Steps.{stops_there, goes_on}

abbrev came_as : Ended → Lent → Lent → Came
came_as e reply marks = record { ended = e; reply = reply; marks = marks }

-- ---- any call, by its plan

module _ (s : State) (reply marks : Lent) (a : ℕ) (list : List ℕ) (plan : Shown → Plan) where
  abbrev call : Bool → Came
  call right = came_by right s reply marks (calling right reply marks a list plan)

  sent_nothing : {right : Bool} → right ≡ false → came_as (ended_of 1 0 s) reply marks ≡ call right
  unfolding calling played
  sent_nothing e = sym (ap call e)

  module _ {right : Bool} (ok : right ≡ true) (q : Outcome) (is : q ≡ step s (reading reply marks)) where
    after_read : came_as (played (left q) (on_done 0 q (carried_out a list (plan (shown_by q))))) q.reply q.marks ≡ call right
    unfolding calling played
    after_read = (λ i. came_as (played (left (is i)) (on_done 0 (is i) (carried_out a list (plan (shown_by (is i)))))) (is i).reply (is i).marks) ∙ sym (ap call ok)

    read_refused : eqb q.number 0 ≡ false → came_as (ended_of q.number 0 (left q)) q.reply q.marks ≡ call right
    read_refused f = ap (λ (e : Ended). came_as e q.reply q.marks) (sym (stops_there (left q) 0 q _ f)) ∙ after_read

    module _ (done : eqb q.number 0 ≡ true) where
      planned : (p : Plan) → plan (shown_by q) ≡ p → came_as (played (left q) (carried_out a list p)) q.reply q.marks ≡ call right
      planned p e =
          ap (λ (x : Plan). came_as (played (left q) (carried_out a list x)) q.reply q.marks) (sym e)
          ∙ ap (λ (x : Ended). came_as x q.reply q.marks) (sym (goes_on (left q) 0 q _ done)) ∙ after_read

      plan_refused : (n : ℕ) → plan (shown_by q) ≡ refused n → came_as (ended_of n 0 (left q)) q.reply q.marks ≡ call right
      unfolding played
      plan_refused n e = planned (refused n) e

      plan_written : (fs : List (List ℕ)) → plan (shown_by q) ≡ writing fs → came_as (played (left q) (writes a list 0 fs 0)) q.reply q.marks ≡ call right
      plan_written fs e = planned (writing fs) e

-- ---- what the read gave back

module _ {b : Bench} {reply marks : List ℕ} {g : Returned} where
  pub read_is : FramePromise b (carried_of read_frame reply marks zeroed) g → outcome_of g ≡ step (state_of b) (reading (lent reply) (lent marks))
  unfolding step
  read_is p = p.outcome

-- ---- store

module _ (s : StoreRecord) (d : Desk) (n : ℕ) (bytes : List ℕ) (allowance : ℕ) (list : List ℕ) where
  abbrev storeOk : Bool
  storeOk = store_right (lent d.reply) (lent d.marks) bytes allowance

  -- a call that is right, and what makes it a wrong one
  pub store_ok : {b : Bool} → b ≡ (eqb (length d.reply) 65536 && eqb (length d.marks) 65536) → b ≡ true → length bytes ≡ 28 → allowance < 2 ^ 16 → storeOk ≡ true
  store_ok is t x a = rw (sym is ∙ t, eq-eqb (length bytes) 28 x, le-leb allowance 65535 (omega arith))

  pub wrong_buffers : {b : Bool} → b ≡ (eqb (length d.reply) 65536 && eqb (length d.marks) 65536) → b ≡ false → storeOk ≡ false
  wrong_buffers is f = rw (sym is ∙ f)

  pub wrong_data : (length bytes ≡ 28 → ⊥) → storeOk ≡ false
  wrong_data h = rw (ne_eqb (length bytes) 28 h, and-false (eqb (length d.reply) 65536 && eqb (length d.marks) 65536))

  pub wrong_allowance : (allowance < 2 ^ 16 → ⊥) → storeOk ≡ false
  wrong_allowance h = rw (lt-leb allowance 65535 (omega arith), and-false ((eqb (length d.reply) 65536 && eqb (length d.marks) 65536) && eqb (length bytes) 28))

  pub store_1 : storeOk ≡ false → StorePromise s d n bytes allowance list (record { chip = s.chip; number = 1; polls = 0 }) d
  unfolding stored store_call
  store_1 e = record { equal = sent_nothing (state_at s d) (lent d.reply) (lent d.marks) allowance list (λ v. storing v n bytes) e }

  module _ (ok : storeOk ≡ true) (g : Returned) (is : outcome_of g ≡ step (state_at s d) (reading (lent d.reply) (lent d.marks))) where
    abbrev v : Shown
    v = shown_in g.reply g.marks

    abbrev d' : Desk
    d' = desk_of g.array g.security g.reply g.marks

    pub store_read : (x : ℕ) → x ≡ answer_number g.after.answer → eqb (answer_number g.after.answer) 0 ≡ false
        → StorePromise s d n bytes allowance list (record { chip = g.after.chip; number = x; polls = 0 }) d'
    unfolding stored store_call
    store_read x e f =
        record {
          equal = ap (λ (y : ℕ). came_as (ended_of y 0 (state_of (bench_of g.after.chip g.array g.security))) (lent g.reply) (lent g.marks)) e
              ∙ read_refused (state_at s d) (lent d.reply) (lent d.marks) allowance list (λ v. storing v n bytes) ok (outcome_of g) is f;
        }

    module _ (done : eqb (answer_number g.after.answer) 0 ≡ true) where
      pub store_16 : (i : ℕ) → i ≡ free_slot v → i ≡ 2048 → StorePromise s d n bytes allowance list (record { chip = g.after.chip; number = 16; polls = 0 }) d'
      unfolding stored store_call storing
      store_16 i e f =
          record { equal = plan_refused (state_at s d) (lent d.reply) (lent d.marks) allowance list (λ v. storing v n bytes) ok (outcome_of g) is done 16 full }
        where
          full : storing v n bytes ≡ refused 16
          full = ap (λ (b : Bool). pick b (writing (storing_at v n bytes (free_slot v))) (refused 16)) (le-ltb (free_slot v) 2048 (omega arith))

      pub store_written : (i : ℕ) → i ≡ free_slot v → i < 2048 → {sent : List ℕ} → sent ≡ bytes → {most : ℕ} → most ≡ allowance → (r : StoreRecord) (array security : List ℕ)
          → leaves r array security ≡ played (state_of (bench_of g.after.chip g.array g.security)) (writes most list 0 (storing_at v n sent i) 0)
          → StorePromise s d n bytes allowance list r (desk_of array security g.reply g.marks)
      unfolding stored store_call storing
      store_written i e l eb ea r array security w =
          record {
            equal = ap (λ (x : Ended). came_as x (lent g.reply) (lent g.marks)) (w ∙ (λ j. played (state_of (bench_of g.after.chip g.array g.security)) (writes (ea j) list 0 (storing_at v n (eb j) i) 0)))
                ∙ plan_written (state_at s d) (lent d.reply) (lent d.marks) allowance list (λ v. storing v n bytes) ok (outcome_of g) is done (storing_at v n bytes i) room;
          }
        where
          room : storing v n bytes ≡ writing (storing_at v n bytes i)
          room =
              ap (λ (b : Bool). pick b (writing (storing_at v n bytes (free_slot v))) (refused 16)) (lt-ltb (free_slot v) 2048 (omega arith))
              ∙ ap (λ (j : ℕ). writing (storing_at v n bytes j)) (sym e)

-- ---- lookup

pub bytes_count : (v : Shown) (i j n : ℕ) → length (bytes_of v i j n) ≡ n
unfolding bytes_of
bytes_count v i j zero = refl
bytes_count v i j (suc n) = ap suc (bytes_count v i (suc j) n)

module _ (s : StoreRecord) (d : Desk) (n : ℕ) (buffer : List ℕ) where
  abbrev lookupOk : Bool
  lookupOk = lookup_right (lent d.reply) (lent d.marks) buffer

  abbrev asked : Script
  asked = lookup_call (lent d.reply) (lent d.marks) n buffer

  -- the buffer, by the number
  kept_buffer : (c : Came) → c ≡ came_by lookupOk (state_at s d) (lent d.reply) (lent d.marks) asked → eqb c.ended.number 0 ≡ false
      → looked_of c buffer ≡ looked_up (state_at s d) (lent d.reply) (lent d.marks) n buffer
  unfolding looked_up
  kept_buffer c e f =
      (λ i. looked_of (e i) buffer)
      ∙ ap (looked_of (came_by lookupOk (state_at s d) (lent d.reply) (lent d.marks) asked))
      (sym (ap (λ (b : Bool). pick b (found (shown_by (step (state_at s d) (reading (lent d.reply) (lent d.marks)))) n) buffer)
      (ap (λ (x : Came). eqb x.ended.number 0) (sym e) ∙ f)))

  pub lookup_1 : lookupOk ≡ false → LookupPromise s d n buffer (record { chip = s.chip; number = 1; polls = 0 }) d buffer
  unfolding lookup_call
  lookup_1 e = record { equal = kept_buffer _ (sent_nothing (state_at s d) (lent d.reply) (lent d.marks) 0 [] (λ v. looking_up v n) e) refl }

  module _ (ok : lookupOk ≡ true) (g : Returned) (is : outcome_of g ≡ step (state_at s d) (reading (lent d.reply) (lent d.marks))) where
    abbrev w : Shown
    w = shown_in g.reply g.marks

    abbrev e' : Desk
    e' = desk_of g.array g.security g.reply g.marks

    pub lookup_read : (x : ℕ) → x ≡ answer_number g.after.answer → eqb (answer_number g.after.answer) 0 ≡ false
        → LookupPromise s d n buffer (record { chip = g.after.chip; number = x; polls = 0 }) e' buffer
    unfolding lookup_call
    lookup_read x e f =
        record {
          equal = kept_buffer _
              (ap (λ (y : ℕ). came_as (ended_of y 0 (state_of (bench_of g.after.chip g.array g.security))) (lent g.reply) (lent g.marks)) e
              ∙ read_refused (state_at s d) (lent d.reply) (lent d.marks) 0 [] (λ v. looking_up v n) ok (outcome_of g) is f)
              (ap (λ (y : ℕ). eqb y 0) e ∙ f);
        }

    module _ (done : eqb (answer_number g.after.answer) 0 ≡ true) where
      pub lookup_17 : (i : ℕ) → i ≡ slot_of w n → i ≡ 2048 → LookupPromise s d n buffer (record { chip = g.after.chip; number = 17; polls = 0 }) e' buffer
      unfolding lookup_call looking_up
      lookup_17 i e f =
          record {
            equal = kept_buffer _ (plan_refused (state_at s d) (lent d.reply) (lent d.marks) 0 [] (λ v. looking_up v n) ok (outcome_of g) is done 17
                (ap (λ (b : Bool). pick b (writing []) (refused 17)) (le-ltb (slot_of w n) 2048 (omega arith)))) refl;
          }

      pub lookup_found : (i : ℕ) → i ≡ slot_of w n → i < 2048 → (l : List ℕ) → l ≡ bytes_of w i 4 28
          → LookupPromise s d n buffer (record { chip = g.after.chip; number = 0; polls = 0 }) e' l
      unfolding lookup_call looking_up looked_up found writes played
      lookup_found i e h l b =
          record { equal = (λ j. looked_of (there j) (data_is j)) ∙ by_number }
        where
          there : came_as (ended_of 0 0 (state_of (bench_of g.after.chip g.array g.security))) (lent g.reply) (lent g.marks)
              ≡ came_by lookupOk (state_at s d) (lent d.reply) (lent d.marks) asked
          there = plan_written (state_at s d) (lent d.reply) (lent d.marks) 0 [] (λ v. looking_up v n) ok (outcome_of g) is done []
              (ap (λ (b : Bool). pick b (writing []) (refused 17)) (lt-ltb (slot_of w n) 2048 (omega arith)))

          here : l ≡ found w n
          here = b ∙ ap (λ (k : ℕ). bytes_of w k 4 28) e ∙ sym (ap (λ (c : Bool). pick c (bytes_of w (slot_of w n) 4 28) []) (lt-ltb (slot_of w n) 2048 (omega arith)))

          data_is : l ≡ found (shown_by (step (state_at s d) (reading (lent d.reply) (lent d.marks)))) n
          data_is = here ∙ ap (λ (o : Outcome). found (shown_by o) n) is

          by_number : looked_of (came_by lookupOk (state_at s d) (lent d.reply) (lent d.marks) asked) (found (shown_by (step (state_at s d) (reading (lent d.reply) (lent d.marks)))) n)
              ≡ looked_up (state_at s d) (lent d.reply) (lent d.marks) n buffer
          by_number = ap (looked_of (came_by lookupOk (state_at s d) (lent d.reply) (lent d.marks) asked))
              (sym (ap (λ (c : Bool). pick c (found (shown_by (step (state_at s d) (reading (lent d.reply) (lent d.marks)))) n) buffer) (ap (λ (x : Came). eqb x.ended.number 0) (sym there))))
