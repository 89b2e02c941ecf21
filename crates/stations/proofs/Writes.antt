-- The writes of a call: each frame of a write is done or refused as single frames are, a completed write leaves a state that takes the next, and so by induction over the frames. Assumes nothing.
use Prim.Native.Nat.{ℕ, zero, suc, ◌+◌, ◌≤◌, ◌<◌}
use mathlib.Core.Path.{◌≡◌, refl, sym, ap, ◌∙◌, subst}
use mathlib.Core.Bool.{Bool, true, false}
use mathlib.Core.List.{List, [], ◌∷◌}
use mathlib.Core.Logic.{◌⊎◌, inl, inr}
use native.Mathlib.Omega.{arith}
use lib.Dec.{eqb, eqb-zero-suc, eqb-suc-suc}
use lib.ListN.{length, get_or, take}
use Rattle.rules.specs.declared.Chip.{Chip}
use Rattle.rules.specs.declared.Range.{Range}
use Rattle.rules.specs.declared.Work.TheVariants.{Nothing}
use Rattle.rules.specs.Words.{pick, Each, ◌next◌}
use Rattle.rules.specs.Blocks.{write_locked}
use Rattle.rules.specs.Works.{array_range}
use Rattle.rules.specs.Registers.{wsp}
use Rattle.rules.specs.Programs.{page_buffer}
use Rattle.rules.specs.Numbers.{State, state_right}
use Rattle.rules.specs.Machine.{Outcome, completes, completion, step, left}
use Rattle.stations.specs.Plans.{program_at}
use Rattle.stations.specs.Calls.{Script, ends, Ended, ended_of, played, moments, short, on_done, polling, write, writes}
use Rattle.stations.specs.Given.{in_time, completed, polls_from, Account, account_of}
use Rattle.stations.specs.Keeping.{Among}
use Rattle.stations.specs.Records.{SameRecord, chip_left}
use Rattle.stations.proofs.Programmed.{programmed_all}
use Rattle.stations.proofs.Frames.{step_right, Ready, latched, latch, latched_ready, Programs, programs, page_of, begun, program_past_8, begins, ended, completes_page}
use Rattle.stations.proofs.Polls.{Calm, polling_comes_to, Always, always_ends, always_does, always_polling}

abbrev pub set_aside : State → Range
set_aside s = array_range s.chip.rest.works.suspended

pub record Kept (s t : State) : Type 0 where
  pub right : state_right t ≡ true
  pub spi : t.chip.rest.flags.sqi ≡ false
  pub same : SameRecord s t

-- a chip that takes every write: no page program is suspended, and the list's block is not write-locked
pub record Open (s : State) : Type 0 where
  pub ready : Ready s
  pub page : wsp s.chip.rest ≡ false
  pub bare : write_locked s.chip.rest.locks.protection 0x10000 ≡ false

-- ---- a frame of a write, in a reading of scripts: done, or refused with k

pub sent_on : {A : Type 0} (reading : State → Script → A) (o : Outcome) (t : State) (n : ℕ) (more : Script) → o.number ≡ 0 → left o ≡ t
    → reading (left o) (on_done n o more) ≡ reading t more
sent_on reading o t n more number state = λ i. reading (state i) (pick (eqb (number i) 0) more (ends (number i) n))

pub sent_off : {A : Type 0} (reading : State → Script → A) (o : Outcome) (t : State) (n k : ℕ) (more : Script) → o.number ≡ k → left o ≡ t → eqb k 0 ≡ false
    → reading (left o) (on_done n o more) ≡ reading t (ends k n)
sent_off reading o t n k more number state e =
    (λ i. reading (state i) (pick (eqb (number i) 0) more (ends (number i) n))) ∙ ap (λ (b : Bool). reading t (pick b more (ends k n))) e

pub each_first : {A : Type 0} {P : A → Type 0} {x : A} {xs : List A} → Each P (x ∷ xs) → P x
each_first (p next ps) = p

pub each_rest : {A : Type 0} {P : A → Type 0} {x : A} {xs : List A} → Each P (x ∷ xs) → Each P xs
each_rest (p next ps) = ps

-- moments along equal lists of them
pub along : {P : State → Type 0} {l m : List State} → l ≡ m → ((t : State) → Among t m → P t) → (t : State) → Among t l → P t
along {P} e g = subst (λ (l : List State). (t : State) → Among t l → P t) (sym e) g

-- ---- one write on an open chip

module _ (s : State) (h : Open s) where
  begun_number : (f : List ℕ) → Programs (set_aside s) f → (step (latched s) (short f)).number ≡ 0
  begun_number f (programs p b bytes low few apart) = program_past_8 (latched s) (latched_ready s h.ready) refl p b bytes low few h.page apart ∙ ap (λ (x : Bool). pick x 11 0) h.bare

  begun_state : (f : List ℕ) → Programs (set_aside s) f → left (step (latched s) (short f)) ≡ begun f (latched s)
  begun_state f (programs p b bytes low few apart) = begins (latched s) p b bytes (begun_number (program_at p (b ∷ bytes)) (programs p b bytes low few apart))

  module _ (f : List ℕ) (p : Programs (set_aside s) f) where
    begun_right : state_right (begun f (latched s)) ≡ true
    begun_right = subst (λ (t : State). state_right t ≡ true) (begun_state f p) (step_right (latched s) (short f) (latched_ready s h.ready).right)

    begun_calm : Calm (begun f (latched s))
    begun_calm = record { right = begun_right; spi = h.ready.spi; unset = refl }

    ended_state : left (completion (begun f (latched s))) ≡ ended f s
    ended_state = (completes_page (latched s) f begun_right h.page).1

    ended_open : Open (ended f s)
    unfolding step
    ended_open =
        record {
          ready = record { right = subst (λ (t : State). state_right t ≡ true) ended_state (step_right (begun f (latched s)) completes begun_right); spi = h.ready.spi; idle = refl };
          page = h.page;
          bare = h.bare;
        }

    pub played_write : (a e n : ℕ) (more : ℕ → Script) → played s (write a e f n more) ≡ pick (in_time a e) (played (ended f s) (more (n + e))) (ended_of 18 (n + a) (begun f (latched s)))
    unfolding played write
    played_write a e n more =
        let l = latch s h.ready in
        sent_on played (step s (short (0x06 ∷ []))) (latched s) n _ l.0 l.1
        ∙ sent_on played (step (latched s) (short f)) (begun f (latched s)) n (polling a 0 e n more) (begun_number f p) (begun_state f p)
        ∙ polling_comes_to (begun f (latched s)) a e n more begun_right h.ready.spi refl refl
        ∙ ap (λ (t : State). pick (in_time a e) (played t (more (n + e))) (ended_of 18 (n + a) (begun f (latched s)))) ended_state

    pub always_write : (P : State → Type 0) (a e n : ℕ) (more : ℕ → Script) → P s → P (latched s) → P (begun f (latched s)) → P (ended f s)
        → ((k : ℕ) → Always P (ended f s) (more k)) → Always P s (write a e f n more)
    unfolding write
    always_write P a e n more here latch-on runs done k =
        let l = latch s h.ready in
        always_does P s (short (0x06 ∷ [])) _ here
        (along (sent_on moments (step s (short (0x06 ∷ []))) (latched s) n _ l.0 l.1)
        (always_does P (latched s) (short f) _ latch-on
        (along (sent_on moments (step (latched s) (short f)) (begun f (latched s)) n (polling a 0 e n more) (begun_number f p) (begun_state f p))
        (always_polling P n e more (begun f (latched s)) begun_calm refl runs (subst P (sym ended_state) done)
        (λ q. subst (λ (t : State). Always P t (more q)) (sym ended_state) (k q)) a 0))))

-- ---- what the writes come to

-- the chip that writes leave; with none to make, as it was
abbrev pub chip_after : Chip → List (List ℕ) → Account → Chip
chip_after c [] x = c
chip_after c (f ∷ fs) x = chip_left c x.number (get_or (f ∷ fs) x.writes [])

-- by an account of them: its number, its polls, the array with its completed writes, and the chip
pub record Came (s : State) (fs : List (List ℕ)) (x : Account) (e : Ended) : Type 0 where
  pub number : e.number ≡ x.number
  pub polls : e.polls ≡ x.polls
  pub array : e.state.array ≡ programmed_all (take x.writes fs) s.array
  pub kept : Kept s e.state
  pub chip : e.state.chip ≡ chip_after s.chip fs x

pub kept_self : (s : State) → Ready s → Kept s s
kept_self s h = record { right = h.right; spi = h.spi; same = record { security = refl; rest = refl } }

-- after one more write
kept_later : (s t : State) (f : List ℕ) → Kept (ended f s) t → Kept s t
kept_later s t f k = record { right = k.right; spi = k.spi; same = record { security = k.same.security; rest = k.same.rest } }

begun_kept : (s : State) (h : Open s) (f : List ℕ) → Programs (set_aside s) f → Kept s (begun f (latched s))
begun_kept s h f p = record { right = begun_right s h f p; spi = h.ready.spi; same = record { security = refl; rest = refl } }

module _ (a : ℕ) (list : List ℕ) where
  -- of c writes from entry j on, n polls before them
  abbrev openAccount : ℕ → ℕ → ℕ → Account
  openAccount j n c = let w = completed a list j c in account_of (pick (eqb w c) 0 18) (n + polls_from a list j c) w

  pub writes_come_to : (fs : List (List ℕ)) (j n : ℕ) (s : State) → Open s → Each (Programs (set_aside s)) fs → Came s fs (openAccount j n (length fs)) (played s (writes a list j fs n))
  unfolding writes played completed polls_from
  writes_come_to [] j n s h ps = let z : n ≡ n + 0 = omega arith in record { number = refl; polls = z; array = refl; kept = kept_self s h.ready; chip = refl }
  writes_come_to (f ∷ gs) j n s h ps =
      subst (Came s (f ∷ gs) (openAccount j n (suc (length gs)))) (sym (played_write s h f (each_first ps) a (get_or list j 0) n (writes a list (suc j) gs)))
      (go (in_time a (get_or list j 0)) (writes_come_to gs (suc j) (n + get_or list j 0) (ended f s) (ended_open s h f (each_first ps)) (each_rest ps)))
    where
      e : ℕ
      e = get_or list j 0

      w : ℕ
      w = completed a list (suc j) (length gs)

      q : ℕ
      q = polls_from a list (suc j) (length gs)

      -- the writes after this one leave what they would on the chip before it
      later : (ks : List (List ℕ)) → chip_after (ended f s).chip ks (openAccount (suc j) (n + e) (length ks)) ≡ chip_left s.chip (openAccount (suc j) (n + e) (length ks)).number (get_or ks (completed a list (suc j) (length ks)) [])
      later [] = refl
      later (k ∷ ks) = by (eqb (completed a list (suc j) (suc (length ks))) (suc (length ks)))
        where
          by : (b : Bool) → let x = get_or (k ∷ ks) (completed a list (suc j) (suc (length ks))) [] in chip_left (ended f s).chip (pick b 0 18) x ≡ chip_left s.chip (pick b 0 18) x
          by true = refl
          by false = refl

      go : (b : Bool) → Came (ended f s) gs (openAccount (suc j) (n + e) (length gs)) (played (ended f s) (writes a list (suc j) gs (n + e)))
          → Came s (f ∷ gs) (account_of (pick (eqb (pick b (suc w) 0) (suc (length gs))) 0 18) (n + pick b (e + q) a) (pick b (suc w) 0))
          (pick b (played (ended f s) (writes a list (suc j) gs (n + e))) (ended_of 18 (n + a) (begun f (latched s))))
      go true k =
          let z : n + e + q ≡ n + (e + q) = omega arith in
          record { number = k.number ∙ ap (λ (b : Bool). pick b 0 18) (sym (eqb-suc-suc w (length gs))); polls = k.polls ∙ z; array = k.array; kept = kept_later s _ f k.kept; chip = k.chip ∙ later gs ∙ ap (λ (b : Bool). chip_left s.chip (pick b 0 18) (get_or gs w [])) (sym (eqb-suc-suc w (length gs))) }
      go false k = record { number = ap (λ (b : Bool). pick b 0 18) (sym (eqb-zero-suc (length gs))); polls = refl; array = refl; kept = begun_kept s h f (each_first ps); chip = ap (λ (b : Bool). chip_left s.chip (pick b 0 18) f) (sym (eqb-zero-suc (length gs))) }

-- ---- each moment of the writes

pub record Runs (f : List ℕ) (t : State) : Type 0 where
  pub running : t.chip.rest.works.running ≡ page_of f
  pub buffer : t.chip.buffer ≡ page_buffer f

-- some of the writes are completed, and the next one may run
pub record Written (s : State) (fs : List (List ℕ)) (t : State) : Type 0 where
  pub writes : ℕ
  pub within : writes ≤ length fs
  pub array : t.array ≡ programmed_all (take writes fs) s.array
  pub kept : Kept s t
  pub doing : (t.chip.rest.works.running ≡ Nothing) ⊎ ((writes < length fs) × Runs (get_or fs writes []) t)

pub none_written : (s t : State) (fs : List (List ℕ)) → t.array ≡ s.array → t.chip.rest.works.running ≡ Nothing → Kept s t → Written s fs t
none_written s t fs a i k = record { writes = 0; within = omega arith; array = a; kept = k; doing = inl i }

-- of no frames: the array is as it was, and nothing runs
pub unwritten : (s t : State) → Written s [] t → (t.array ≡ s.array) × (t.chip.rest.works.running ≡ Nothing)
unwritten s t k = (k.array ∙ none k.writes, go k.doing)
  where
    none : (q : ℕ) → programmed_all (take q []) s.array ≡ s.array
    none zero = refl
    none (suc q) = refl

    go : (t.chip.rest.works.running ≡ Nothing) ⊎ ((k.writes < 0) × Runs (get_or [] k.writes []) t) → t.chip.rest.works.running ≡ Nothing
    go (inl i) = i
    go (inr r) = let l = r.0 in absurd (omega arith)

pub some_written : (s t : State) (fs : List (List ℕ)) → Written s [] t → Written s fs t
some_written s t fs k = let u = unwritten s t k in none_written s t fs u.0 u.1 k.kept

pub latched_kept : (s : State) → Ready s → Kept s (latched s)
latched_kept s h = record { right = (latched_ready s h).right; spi = h.spi; same = record { security = refl; rest = refl } }

written_later : (s t : State) (f : List ℕ) (fs : List (List ℕ)) → Written (ended f s) fs t → Written s (f ∷ fs) t
written_later s t f fs k =
    let w = k.within in
    record { writes = suc k.writes; within = omega arith; array = k.array; kept = kept_later s t f k.kept; doing = go k.doing }
  where
    go : (t.chip.rest.works.running ≡ Nothing) ⊎ ((k.writes < length fs) × Runs (get_or fs k.writes []) t)
        → (t.chip.rest.works.running ≡ Nothing) ⊎ ((suc k.writes < suc (length fs)) × Runs (get_or fs k.writes []) t)
    go (inl i) = inl i
    go (inr r) = inr (let l = r.0 in omega arith, r.1)

pub always_writes : (a : ℕ) (list : List ℕ) (fs : List (List ℕ)) (j n : ℕ) (s : State) → Open s → Each (Programs (set_aside s)) fs → Always (Written s fs) s (writes a list j fs n)
unfolding writes
always_writes a list [] j n s h ps = always_ends (Written s []) s 0 n (none_written s s [] refl h.ready.idle (kept_self s h.ready))
always_writes a list (f ∷ gs) j n s h ps =
    let p = each_first ps in
    always_write s h f p (Written s (f ∷ gs)) a (get_or list j 0) n (writes a list (suc j) gs)
    (none_written s s (f ∷ gs) refl h.ready.idle (kept_self s h.ready))
    (none_written s (latched s) (f ∷ gs) refl h.ready.idle (latched_kept s h.ready))
    (record { writes = 0; within = omega arith; array = refl; kept = begun_kept s h f p; doing = inr (omega arith, record { running = refl; buffer = refl }) })
    (written_later s (ended f s) f gs (none_written (ended f s) (ended f s) gs refl refl (kept_self (ended f s) (ended_open s h f p).ready)))
    (λ q t m. written_later s t f gs (always_writes a list gs (suc j) q (ended f s) (ended_open s h f p) (each_rest ps) t m))
