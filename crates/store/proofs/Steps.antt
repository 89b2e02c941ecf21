-- What the calls of a step come to: one frame of the machine, a poll, the polls of a write. By the definitions of a call. Assumes nothing.
use Prim.Native.Nat.{ℕ, suc, ◌+◌, ◌-◌, ◌/◌, ◌%◌, ◌<◌, ◌≤◌}
use mathlib.Core.Path.{◌≡◌, refl, sym, ap, ◌∙◌, subst}
use mathlib.Core.Bool.{Bool, true, false, true≢false}
use mathlib.Core.List.{List, [], ◌∷◌}
use native.Mathlib.Omega.{arith}
use lib.Dec.{eqb}
use lib.ListN.{get_or}
use borrow.Author.Tests.{ne_eqb}
use Rattle.rules.specs.declared.Refusal.{Refusal}
use Rattle.rules.proofs.Promises.{answer_one}
use Rattle.rules.specs.declared.Circumstances.{Circumstances}
use Rattle.rules.specs.Words.{bit, pick}
use Rattle.std.specs.Prelude.{Ok, Err}
use Rattle.rules.specs.Numbers.{Answer, State, answer_number}
use Rattle.rules.specs.Machine.{Outcome, step, left}
use Rattle.rules.specs.Promises.{Bench, Returned, zeroed, bench_of, carried_of, state_of, FramePromise, CompletionPromise}
use Rattle.stations.specs.Calls.{Script, ends, does, Ended, ended_of, played, short, on_done, arriving, polling, write}
use Rattle.store.specs.Steps.{SentPromise, ArrivedPromise, PolledPromise, arrived_state, polled_of}
use Rattle.store.specs.declared.writes.Polled.{Polled}

-- ---- frames

-- the circumstances are those of no reset
pub calmly : {b : Bench} {sent reply marks : List ℕ} {x : Circumstances} {g : Returned}
    → x ≡ zeroed → FramePromise b (carried_of sent reply marks x) g → FramePromise b (carried_of sent reply marks zeroed) g
calmly {b} {sent} {reply} {marks} {x} {g} e p = subst (λ (y : Circumstances). FramePromise b (carried_of sent reply marks y) g) e p

abbrev bench_left : Returned → Bench
bench_left g = bench_of g.after.chip g.array g.security

pub sends_one : {b : Bench} {sent : List ℕ} {g : Returned}
    → FramePromise b (carried_of sent (0 ∷ []) (0 ∷ []) zeroed) g → SentPromise b sent g.after.answer (bench_left g)
unfolding step
sends_one p = record { number = ap (λ (o : Outcome). o.number) p.outcome; state = ap left p.outcome }

pub arrives_now : {arrives : Bool} {b : Bench} {g : Returned} → arrives ≡ true → CompletionPromise b g → ArrivedPromise arrives b (bench_left g)
arrives_now {arrives} {b} {g} e p = record { state = ap left p.outcome ∙ ap (λ (x : Bool). arrived_state x (state_of b)) (sym e) }

pub arrives_not : {arrives : Bool} {b : Bench} → arrives ≡ false → ArrivedPromise arrives b b
arrives_not {arrives} {b} e = record { state = ap (λ (x : Bool). arrived_state x (state_of b)) (sym e) }

-- ---- a poll

whole : (x : ℕ) → x / 1 ≡ x
whole x = omega arith

low_bit : (x : ℕ) → eqb (x % 2) 1 ≡ bit 0 x
unfolding bit
low_bit x = ap (λ (y : ℕ). eqb (y % 2) 1) (sym (whole x))

pub polls_once : {arrives : Bool} {b ready : Bench} {g : Returned}
    → ArrivedPromise arrives b ready → FramePromise ready (carried_of (0x05 ∷ []) (0 ∷ []) (0 ∷ []) zeroed) g
    → PolledPromise arrives b (record { answer = g.after.answer; chip = g.after.chip; busy = eqb (get_or g.reply 0 0 % 2) 1 }) (bench_left g)
unfolding step
polls_once {arrives} {b} {ready} {g} a p =
    let e = p.outcome ∙ ap (λ (s : State). step s (short (0x05 ∷ []))) a.state in
    record {
      number = ap (λ (o : Outcome). o.number) e;
      busy = low_bit (get_or g.reply 0 0) ∙ ap (λ (o : Outcome). bit 0 (o.reply.byte 0)) e;
      state = ap left e;
    }

-- ---- the polls of a write: one more

pub played_arriving : (s : State) (arrives : Bool) (next : Script) → played s (arriving arrives next) ≡ played (arrived_state arrives s) next
unfolding played step
played_arriving s true next = refl
played_arriving s false next = refl

-- what follows a poll
abbrev polled_next : ℕ → ℕ → ℕ → ℕ → Outcome → Script
polled_next a p e n o = on_done n o (pick (bit 0 (o.reply.byte 0)) (polling a p e n (ends 0)) (ends 0 (n + p)))

module _ (b : Bench) (allowance made e n : ℕ) (more : made < allowance) where
  abbrev o : Outcome
  o = polled_of (eqb (made + 1) e) b

  abbrev before : Ended
  before = played (state_of b) (polling (allowance - made) made e n (ends 0))

  polling_next : before ≡ played (left o) (polled_next (allowance - (made + 1)) (made + 1) e n o)
  unfolding polling played
  polling_next =
      ap (λ (a : ℕ). played (state_of b) (polling a made e n (ends 0))) left_over
      ∙ played_arriving (state_of b) (eqb (suc made) e) _
      ∙ ap (λ (p : ℕ). let q = polled_of (eqb p e) b in played (left q) (polled_next (allowance - (made + 1)) p e n q)) one_more
    where
      left_over : allowance - made ≡ suc (allowance - (made + 1))
      left_over = omega arith

      one_more : suc made ≡ made + 1
      one_more = omega arith

  module _ {arrives : Bool} (is : arrives ≡ eqb (made + 1) e) {r : Polled} {b' : Bench} (polled : PolledPromise arrives b r b') where
    told : PolledPromise (eqb (made + 1) e) b r b'
    told = subst (λ (x : Bool). PolledPromise x b r b') is polled

    pub poll_refused : {x : ℕ} → x ≡ answer_number r.answer → eqb (answer_number r.answer) 0 ≡ false → ended_of x n (state_of b') ≡ before
    unfolding played
    poll_refused {x} e f =
        (λ i. ended_of ((e ∙ told.number) i) n (told.state i))
        ∙ sym (polling_next ∙ rw (ap (λ (x : ℕ). eqb x 0) (sym told.number) ∙ f))

    pub poll_ended : eqb (answer_number r.answer) 0 ≡ true → r.busy ≡ false → ended_of 0 (n + (made + 1)) (state_of b') ≡ before
    unfolding played
    poll_ended d f =
        ap (ended_of 0 (n + (made + 1))) told.state
        ∙ sym (polling_next ∙ rw (ap (λ (x : ℕ). eqb x 0) (sym told.number) ∙ d, sym told.busy ∙ f))

    pub poll_again : eqb (answer_number r.answer) 0 ≡ true → r.busy ≡ true
        → played (state_of b') (polling (allowance - (made + 1)) (made + 1) e n (ends 0)) ≡ before
    poll_again d t =
        ap (λ (s : State). played s (polling (allowance - (made + 1)) (made + 1) e n (ends 0))) told.state
        ∙ sym (polling_next ∙ rw (ap (λ (x : ℕ). eqb x 0) (sym told.number) ∙ d, sym told.busy ∙ t))

pub polls_over : (s : State) (allowance made e n : ℕ) → allowance ≤ made → ended_of 18 (n + made) s ≡ played s (polling (allowance - made) made e n (ends 0))
unfolding polling played
polls_over s allowance made e n h = let z : allowance - made ≡ 0 = omega arith in sym (ap (λ (a : ℕ). played s (polling a made e n (ends 0))) z)

-- ---- "only a done answer goes on to the next frame"

module _ (s : State) (n : ℕ) (o : Outcome) (next : Script) where
  pub stops_there : eqb o.number 0 ≡ false → played s (on_done n o next) ≡ ended_of o.number n s
  unfolding played
  stops_there e = ap (λ (b : Bool). played s (pick b next (ends o.number n))) e

  pub goes_on : eqb o.number 0 ≡ true → played s (on_done n o next) ≡ played s next
  goes_on e = ap (λ (b : Bool). played s (pick b next (ends o.number n))) e

-- ---- a write: 06, the frame, polls

module _ (b : Bench) (allowance e n : ℕ) (frame : List ℕ) (next : ℕ → Script) where
  abbrev writing : Ended
  writing = played (state_of b) (write allowance e frame n next)

  abbrev latch : Outcome
  latch = step (state_of b) (short (0x06 ∷ []))

  abbrev begin : Outcome
  begin = step (left latch) (short frame)

  latch_first : writing ≡ played (left latch) (on_done n latch (does (short frame) (λ o. on_done n o (polling allowance 0 e n next))))
  unfolding played write
  latch_first = refl

  module _ {a : Answer} {b' : Bench} (latched : SentPromise b (0x06 ∷ []) a b') where
    pub latch_refused : {x : ℕ} → x ≡ answer_number a → eqb (answer_number a) 0 ≡ false → ended_of x n (state_of b') ≡ writing
    latch_refused {x} p f =
        (λ i. ended_of ((p ∙ latched.number) i) n (latched.state i))
        ∙ sym (latch_first ∙ stops_there (left latch) n latch _ (ap (λ (y : ℕ). eqb y 0) (sym latched.number) ∙ f))

    module _ (opens : eqb (answer_number a) 0 ≡ true) {a'' : Answer} {b'' : Bench} (begun : SentPromise b' frame a'' b'') where
      begin_is : step (state_of b') (short frame) ≡ begin
      begin_is = ap (λ (s : State). step s (short frame)) latched.state

      number_is : answer_number a'' ≡ begin.number
      number_is = begun.number ∙ ap (λ (q : Outcome). q.number) begin_is

      state_is : state_of b'' ≡ left begin
      state_is = begun.state ∙ ap left begin_is

      then : writing ≡ played (left begin) (on_done n begin (polling allowance 0 e n next))
      unfolding played
      then = latch_first ∙ goes_on (left latch) n latch _ (ap (λ (y : ℕ). eqb y 0) (sym latched.number) ∙ opens)

      pub frame_refused : {x : ℕ} → x ≡ answer_number a'' → eqb (answer_number a'') 0 ≡ false → ended_of x n (state_of b'') ≡ writing
      frame_refused {x} p f =
          (λ i. ended_of ((p ∙ number_is) i) n (state_is i))
          ∙ sym (then ∙ stops_there (left begin) n begin _ (ap (λ (y : ℕ). eqb y 0) (sym number_is) ∙ f))

      pub frame_begun : eqb (answer_number a'') 0 ≡ true → played (state_of b'') (polling allowance 0 e n next) ≡ writing
      frame_begun d =
          ap (λ (s : State). played s (polling allowance 0 e n next)) state_is
          ∙ sym (then ∙ goes_on (left begin) n begin _ (ap (λ (y : ℕ). eqb y 0) (sym number_is) ∙ d))

-- ---- the answer's number is 0 exactly where it is done

abbrev is_done : Answer → Bool
is_done (Ok x) = true
is_done (Err w) = false

pub refused_some : (a : Answer) (w : Refusal) → a ≡ Err w → eqb (answer_number a) 0 ≡ false
refused_some a w e =
    ap (λ (x : Answer). eqb (answer_number x) 0) e
    ∙ ne_eqb (answer_number (Err w)) 0 (λ z. true≢false (sym (ap is_done (answer_one (Err w) (Ok tt) z))))

pub done_none : (a : Answer) → a ≡ Ok tt → eqb (answer_number a) 0 ≡ true
done_none a e = ap (λ (x : Answer). eqb (answer_number x) 0) e
