-- Polls: while the write runs a poll reads BUSY 1 and changes nothing at all, and the first one after the completion reads BUSY 0; so they come to one of two ends, by induction over those that are left. Assumes nothing.
use Prim.Native.Nat.{ℕ, zero, suc, ◌+◌}
use mathlib.Core.Path.{◌≡◌, refl, sym, ap, ap₂, ◌∙◌, subst}
use mathlib.Core.Bool.{Bool, true, false, ◌&&◌}
use mathlib.Core.List.{List, [], ◌∷◌}
use mathlib.Core.Logic.{inl, inr}
use native.Mathlib.Omega.{arith}
use lib.Dec.{eqb, ltb, leb}
use borrow.Author.Tests.{eqb-true, eqb-false, ltb-true, leb-true, lt-ltb, le-leb, not-true}
use Rattle.rules.specs.declared.Rest.{Rest}
use Rattle.rules.specs.declared.Work.{Work}
use Rattle.rules.specs.declared.Work.TheVariants.{Nothing, EraseSector, EraseBlock, EraseArray, ProgramPage, ProgramSecurity, LockSecurity, WriteConfiguration, AddPermanent}
use Rattle.rules.specs.Words.{bit, pick}
use Rattle.rules.specs.Works.{is_nothing}
use Rattle.rules.specs.Registers.{busy}
use Rattle.rules.specs.Commands.{settled, rested}
use Rattle.rules.specs.Numbers.{State, state_right}
use Rattle.rules.specs.Machine.{Outcome, Event, completes, completion, step, left}
use Rattle.rules.proofs.Bools.{and_split, and_both, never, same_test}
use Rattle.rules.proofs.Numbers.{completion_given}
use Rattle.rules.proofs.Refusals.{completion_done_whole}
use Rattle.stations.specs.Calls.{Script, ends, does, ended_of, played, moments, short, on_done, arriving, polling}
use Rattle.stations.specs.Given.{PollingComesTo}
use Rattle.stations.specs.Keeping.{Among}
use Rattle.stations.proofs.Frames.{step_right, Wired, poll, poll_leaves}

-- ---- a state in SPI in which no 99 is taken next: every state of a call after its first frame

pub record Calm (s : State) : Type 0 where
  pub right : state_right s ≡ true
  pub spi : s.chip.rest.flags.sqi ≡ false
  pub unset : s.chip.rest.flags.enable ≡ false

abbrev wired : (s : State) → Calm s → Wired s
wired s c = record { right = c.right; spi = c.spi }

settled_keeps : (w : Work) (r : Rest) → ((settled w r).flags.sqi ≡ r.flags.sqi) × ((settled w r).flags.enable ≡ r.flags.enable)
settled_keeps Nothing r = (refl, refl)
settled_keeps (EraseSector n) r = (refl, refl)
settled_keeps (EraseBlock n) r = (refl, refl)
settled_keeps EraseArray r = (refl, refl)
settled_keeps (ProgramPage n) r = (refl, refl)
settled_keeps (ProgramSecurity n) r = (refl, refl)
settled_keeps LockSecurity r = (refl, refl)
settled_keeps (WriteConfiguration i w) r = (refl, refl)
settled_keeps (AddPermanent v) r = (refl, refl)

-- a completion that is due leaves it so, and idle
completed_calm : (s : State) → Calm s → busy s.chip.rest ≡ true → Calm (left (completion s)) × (busy (completion s).chip.rest ≡ false)
unfolding step
completed_calm s c b =
    let e : (completion s).number ≡ 0 = (completion_given s).is_0.1 (c.right, not-true (is_nothing s.chip.rest.works.running) b) in
    let k = settled_keeps s.chip.rest.works.running s.chip.rest in
    let rest : (completion s).chip.rest ≡ rested (settled s.chip.rest.works.running s.chip.rest) = ap (λ (o : Outcome). o.chip.rest) (completion_done_whole s e) in (
      record { right = step_right s completes c.right; spi = ap (λ (r : Rest). r.flags.sqi) rest ∙ k.0 ∙ c.spi; unset = ap (λ (r : Rest). r.flags.enable) rest ∙ k.1 ∙ c.unset },
      ap busy rest,
    )

-- ---- one poll

abbrev asking : ℕ → Script → Script → Script
asking n more done = does (short (0x05 ∷ [])) (λ o. on_done n o (pick (bit 0 (o.reply.byte 0)) more done))

-- a reading of scripts goes on from the same state, by whether it is busy
asked : {A : Type 0} (reading : State → Script → A) (n : ℕ) (more done : Script) (s : State) → Calm s
    → let o = step s (short (0x05 ∷ [])) in
    reading (left o) (on_done n o (pick (bit 0 (o.reply.byte 0)) more done)) ≡ reading s (pick (busy s.chip.rest) more done)
asked reading n more done s c =
    let e = poll s (wired s c) in
    let state = e.state ∙ poll_leaves s c.unset in
    let number = e.number in
    let reads = e.reads in
    λ i. reading (state i) (pick (eqb (number i) 0) (pick (reads i) more done) (ends (number i) n))

-- ---- what they come to

played_asking : (n : ℕ) (more done : Script) (s : State) → Calm s → played s (asking n more done) ≡ played s (pick (busy s.chip.rest) more done)
unfolding played
played_asking n more done s c = asked played n more done s c

module _ (e n : ℕ) (next : ℕ → Script) where
  comes_to : (a p : ℕ) (s : State) → Calm s → busy s.chip.rest ≡ true
      → played s (polling a p e n next) ≡ pick (ltb p e && leb e (p + a)) (played (left (completion s)) (next (n + e))) (ended_of 18 (n + (p + a)) s)
  unfolding polling played step
  comes_to zero p s c b =
      let late : (ltb p e && leb e (p + 0)) ≡ false = never (ltb p e && leb e (p + 0)) (λ h. let k = and_split (ltb p e) (leb e (p + 0)) h in let x = ltb-true p e k.0 in let y = leb-true e (p + 0) k.1 in omega arith) in
      let z : n + p ≡ n + (p + 0) = omega arith in
      rw (late, ← z)
  comes_to (suc a) p s c b = go (eqb (suc p) e) refl (comes_to a (suc p) s c b)
    where
      go : (d : Bool) → eqb (suc p) e ≡ d
          → played s (polling a (suc p) e n next) ≡ pick (ltb (suc p) e && leb e (suc p + a)) (played (left (completion s)) (next (n + e))) (ended_of 18 (n + (suc p + a)) s)
          → played s (arriving d (asking n (polling a (suc p) e n next) (next (n + suc p)))) ≡ pick (ltb p e && leb e (p + suc a)) (played (left (completion s)) (next (n + e))) (ended_of 18 (n + (p + suc a)) s)
      go true d ih =
          let h = eqb-true (suc p) e d in
          let k = completed_calm s c b in
          rw (lt-ltb p e (omega arith), le-leb e (p + suc a) (omega arith))
          (played_asking n (polling a (suc p) e n next) (next (n + suc p)) (left (completion s)) k.0
          ∙ ap (λ (x : Bool). played (left (completion s)) (pick x (polling a (suc p) e n next) (next (n + suc p)))) k.1
          ∙ ap (λ (x : ℕ). played (left (completion s)) (next (n + x))) h)
      go false d ih =
          let h = eqb-false (suc p) e d in
          let same : (ltb (suc p) e && leb e (suc p + a)) ≡ (ltb p e && leb e (p + suc a)) =
          same_test (ltb (suc p) e && leb e (suc p + a)) (ltb p e && leb e (p + suc a))
          (λ t. let k = and_split (ltb (suc p) e) (leb e (suc p + a)) t in let x = ltb-true (suc p) e k.0 in let y = leb-true e (suc p + a) k.1 in and_both (lt-ltb p e (omega arith)) (le-leb e (p + suc a) (omega arith)))
          (λ t. let k = and_split (ltb p e) (leb e (p + suc a)) t in let x = ltb-true p e k.0 in let y = leb-true e (p + suc a) k.1 in and_both (lt-ltb (suc p) e (omega arith)) (le-leb e (suc p + a) (omega arith))) in
          let z : n + (suc p + a) ≡ n + (p + suc a) = omega arith in
          played_asking n (polling a (suc p) e n next) (next (n + suc p)) s c
          ∙ ap (λ (x : Bool). played s (pick x (polling a (suc p) e n next) (next (n + suc p)))) b
          ∙ ih ∙ ap₂ (λ (x : Bool) (y : ℕ). pick x (played (left (completion s)) (next (n + e))) (ended_of 18 y s)) same z

pub polling_comes_to : PollingComesTo
polling_comes_to s a e n next right spi unset b =
    let z : n + (0 + a) ≡ n + a = omega arith in
    let y : 0 + a ≡ a = omega arith in
    comes_to e n next a 0 s (record { right = right; spi = spi; unset = unset }) b
    ∙ ap₂ (λ (x y : ℕ). pick (ltb 0 e && leb e x) (played (left (completion s)) (next (n + e))) (ended_of 18 y s)) y z

-- ---- the moments of a call

-- the statement holds of each state on the way
abbrev pub Always : (State → Type 0) → State → Script → Type 0
Always P s call = (t : State) → Among t (moments s call) → P t

pub always_ends : (P : State → Type 0) (s : State) (number polls : ℕ) → P s → Always P s (ends number polls)
unfolding moments
always_ends P s number polls h t (inl e) = subst P (sym e) h
always_ends P s number polls h t (inr m) = absurd m

pub always_does : (P : State → Type 0) (s : State) (e : Event) (more : Outcome → Script) → P s → Always P (left (step s e)) (more (step s e)) → Always P s (does e more)
unfolding moments
always_does P s e more h k t (inl q) = subst P (sym q) h
always_does P s e more h k t (inr m) = k t m

module _ (P : State → Type 0) (n : ℕ) where
  always_asking : (more done : Script) (s : State) → Calm s → P s → Always P s (pick (busy s.chip.rest) more done) → Always P s (asking n more done)
  always_asking more done s c h k =
      always_does P s (short (0x05 ∷ [])) _ h (subst (λ (l : List State). (t : State) → Among t l → P t) (sym (asked moments n more done s c)) k)

  -- the state at the first poll, the completed one, and what follows from there
  pub always_polling : (e : ℕ) (next : ℕ → Script) (s : State) → Calm s → busy s.chip.rest ≡ true → P s → P (left (completion s)) → ((k : ℕ) → Always P (left (completion s)) (next k))
      → (a p : ℕ) → Always P s (polling a p e n next)
  unfolding polling step
  always_polling e next s c b h done k zero p = always_ends P s 18 (n + p) h
  always_polling e next s c b h done k (suc a) p = go (eqb (suc p) e) (always_polling e next s c b h done k a (suc p))
    where
      go : (d : Bool) → Always P s (polling a (suc p) e n next) → Always P s (arriving d (asking n (polling a (suc p) e n next) (next (n + suc p))))
      go true ih =
          let w = completed_calm s c b in
          always_does P s completes _ h
          (always_asking (polling a (suc p) e n next) (next (n + suc p)) (left (completion s)) w.0 done
          (subst (λ (x : Bool). Always P (left (completion s)) (pick x (polling a (suc p) e n next) (next (n + suc p)))) (sym w.1) (k (n + suc p))))
      go false ih =
          always_asking (polling a (suc p) e n next) (next (n + suc p)) s c h
          (subst (λ (x : Bool). Always P s (pick x (polling a (suc p) e n next) (next (n + suc p)))) (sym b) ih)
