-- A call sends only the frames of the store, since each of its frames is written into its program; and a call is the run of the events that it makes, with a moment before and after each, by induction over the program. Assumes nothing.
use Prim.Native.Nat.{ℕ, zero, suc, ◌+◌}
use mathlib.Core.Path.{refl, ap}
use mathlib.Core.Bool.{Bool, true, false}
use mathlib.Core.List.{List, [], ◌∷◌}
use lib.Dec.{eqb, ltb}
use lib.ListN.{get_or}
use Rattle.rules.specs.Words.{bit, pick, Lent, Each, end, ◌next◌}
use Rattle.rules.specs.Numbers.{State}
use Rattle.rules.specs.Machine.{Outcome, completes, step, left}
use Rattle.stations.specs.Slots.{Shown, slot_count, those_from, live_of, slot_of, free_slot}
use Rattle.stations.specs.Plans.{Plan, refused, writing, program_at, clearings, storing_at, storing, looking_up}
use Rattle.stations.specs.Calls.{Script, ends, does, played, moments, made, short, on_done, arriving, polling, write, writes, reading, shown_by, carried_out, calling, store_right, lookup_right, store_call, lookup_call}
use Rattle.stations.specs.Keeping.{OfStore, a_read, a_latch, a_write, a_poll, a_completion, CallsSendOnly, CallsAreRuns, MomentsAreRuns}

-- ---- the frames of the writes

-- a 02 with at least one byte of data
data Programs : List ℕ → Type 0 where
  programs : (p b : ℕ) (bytes : List ℕ) → Programs (program_at p (b ∷ bytes))

abbrev Sends : State → Script → Type 0
Sends s call = Each OfStore (made s call)

sends_done : (s : State) (b : Bool) (k n : ℕ) (more : Script) → Sends s more → Sends s (pick b more (ends k n))
unfolding made
sends_done s true k n more h = h
sends_done s false k n more h = end

sends_polling : (a p e n : ℕ) (more : ℕ → Script) → ((t : State) (k : ℕ) → Sends t (more k)) → (s : State) → Sends s (polling a p e n more)
unfolding polling made
sends_polling zero p e n more h s = end
sends_polling (suc a) p e n more h s = go (eqb (suc p) e) (sends_polling a (suc p) e n more h)
  where
    asks : Script
    asks = does (short (0x05 ∷ [])) (λ o. on_done n o (pick (bit 0 (o.reply.byte 0)) (polling a (suc p) e n more) (more (n + suc p))))

    again : (t : State) (b : Bool) → Sends t (polling a (suc p) e n more) → Sends t (pick b (polling a (suc p) e n more) (more (n + suc p)))
    again t true f = f
    again t false f = h t (n + suc p)

    asked : ((t : State) → Sends t (polling a (suc p) e n more)) → (t : State) → Sends t asks
    asked f t =
        let o : Outcome = step t (short (0x05 ∷ [])) in
        a_poll next sends_done (left o) (eqb o.number 0) o.number n _ (again (left o) (bit 0 (o.reply.byte 0)) (f (left o)))

    go : (b : Bool) → ((t : State) → Sends t (polling a (suc p) e n more)) → Sends s (arriving b asks)
    go true f = a_completion next asked f (left (step s completes))
    go false f = asked f s

sends_writes : (allowance : ℕ) (list : List ℕ) (j : ℕ) (fs : List (List ℕ)) → Each Programs fs → (n : ℕ) (s : State) → Sends s (writes allowance list j fs n)
unfolding writes write made
sends_writes allowance list j fs end n s = end
sends_writes allowance list j fs (◌next◌ {xs = gs} (programs p b bytes) hs) n s =
    let o : Outcome = step s (short (0x06 ∷ [])) in
    let q : Outcome = step (left o) (short (program_at p (b ∷ bytes))) in
    a_latch next sends_done (left o) (eqb o.number 0) o.number n _
    (a_write p b bytes next sends_done (left q) (eqb q.number 0) q.number n _
    (sends_polling allowance 0 (get_or list j 0) n (writes allowance list (suc j) gs) (λ t k. sends_writes allowance list (suc j) gs hs k t) (left q)))

-- ---- the plans

clears : (is : List ℕ) → Each Programs (clearings is)
unfolding clearings
clears [] = end
clears (i ∷ is) = programs _ _ _ next clears is

abbrev Writes : Plan → Type 0
Writes (refused number) = Unit {0}
Writes (writing fs) = Each Programs fs

stores : (v : Shown) (n : ℕ) (bytes : List ℕ) → Writes (storing v n bytes)
unfolding storing
stores v n bytes = go (ltb (free_slot v) slot_count)
  where
    go : (b : Bool) → Writes (pick b (writing (storing_at v n bytes (free_slot v))) (refused 16))
    go true = programs _ _ _ next programs _ _ _ next clears (those_from (live_of v n) 0 slot_count)
    go false = tt

looks : (v : Shown) (n : ℕ) → Writes (looking_up v n)
unfolding looking_up
looks v n = go (ltb (slot_of v n) slot_count)
  where
    go : (b : Bool) → Writes (pick b (writing []) (refused 17))
    go true = end
    go false = tt

sends_plan : (allowance : ℕ) (list : List ℕ) (plan : Plan) → Writes plan → (s : State) → Sends s (carried_out allowance list plan)
unfolding made
sends_plan allowance list (refused number) h s = end
sends_plan allowance list (writing fs) h s = sends_writes allowance list 0 fs h 0 s

sends_call : (right : Bool) (reply marks : Lent) (allowance : ℕ) (list : List ℕ) (plan : Shown → Plan) → ((v : Shown) → Writes (plan v)) → (s : State)
    → Sends s (calling right reply marks allowance list plan)
unfolding calling made
sends_call false reply marks allowance list plan h s = end
sends_call true reply marks allowance list plan h s =
    let o : Outcome = step s (reading reply marks) in
    a_read reply marks next sends_done (left o) (eqb o.number 0) o.number 0 _ (sends_plan allowance list (plan (shown_by o)) (h (shown_by o)) (left o))

pub calls_send_only : CallsSendOnly
unfolding store_call lookup_call
calls_send_only s reply marks n bytes allowance list buffer = (
  record { events = sends_call (store_right reply marks bytes allowance) reply marks allowance list (λ v. storing v n bytes) (λ v. stores v n bytes) s },
  record { events = sends_call (lookup_right reply marks buffer) reply marks 0 [] (λ v. looking_up v n) (λ v. looks v n) s },
)

-- ---- runs

pub calls_are_runs : CallsAreRuns
unfolding played made
calls_are_runs s (ends number polls) = refl
calls_are_runs s (does e more) = calls_are_runs (left (step s e)) (more (step s e))

pub moments_are_runs : MomentsAreRuns
unfolding moments made
moments_are_runs s (ends number polls) = refl
moments_are_runs s (does e more) = ap (λ (l : List State). s ∷ l) (moments_are_runs (left (step s e)) (more (step s e)))
