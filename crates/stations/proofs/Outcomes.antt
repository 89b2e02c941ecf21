-- The writes on any chip that took the read: 8 beside a suspended page program and 11 in a write-locked block, both at the first 02 with nothing written; else as on an open chip. Assumes nothing.
use Prim.Native.Nat.{ℕ, suc, ◌+◌, ◌≤◌}
use mathlib.Core.Path.{◌≡◌, refl, sym, ap, ◌∙◌, subst}
use mathlib.Core.Bool.{Bool, true, false, ◌||◌, false≢true}
use mathlib.Core.List.{List, [], ◌∷◌}
use native.Mathlib.Omega.{arith}
use lib.Dec.{eqb}
use lib.ListN.{length}
use borrow.Author.Tests.{ne_eqb}
use Rattle.rules.specs.declared.Work.TheVariants.{Nothing}
use Rattle.rules.specs.Words.{pick, Each}
use Rattle.rules.specs.Blocks.{write_locked}
use Rattle.rules.specs.Registers.{wsp}
use Rattle.rules.specs.Fields.{chip_of, with_running, with_wel, with_enable}
use Rattle.rules.specs.Numbers.{State, state_right}
use Rattle.rules.specs.Machine.{step, left}
use Rattle.stations.specs.Calls.{ended_of, played, moments, short, write, writes}
use Rattle.stations.specs.Given.{completed, polls_from, account_of, at, writes_account}
use Rattle.stations.specs.Records.{used, chip_left}
use Rattle.stations.proofs.Frames.{step_right, Ready, latched, latch, latched_ready, framed, Programs, programs, program_8, program_past_8, refuses}
use Rattle.stations.proofs.Polls.{Always, always_ends, always_does}
use Rattle.stations.proofs.Writes.{set_aside, Kept, sent_on, sent_off, along, each_first, Came, kept_self, writes_come_to, Written, none_written, some_written, latched_kept, always_writes}

-- ---- refused at the first 02

module _ (s : State) (h : Ready s) (f : List ℕ) (fs : List (List ℕ)) (a : ℕ) (list : List ℕ) (j n : ℕ) where
  module _ (k : ℕ) (more : 3 ≤ k) (e : (step (latched s) (short f)).number ≡ k) where
    refused_state : left (step (latched s) (short f)) ≡ used (latched s)
    refused_state = refuses (latched s) (framed f) k more e

    refused_kept : Kept s (used (latched s))
    refused_kept = record { right = subst (λ (t : State). state_right t ≡ true) refused_state (step_right (latched s) (short f) (latched_ready s h).right); spi = h.spi; same = record { security = refl; rest = refl } }

    refused_comes_to : played s (writes a list j (f ∷ fs) n) ≡ ended_of k n (used (latched s))
    unfolding writes write played
    refused_comes_to =
        let l = latch s h in
        sent_on played (step s (short (0x06 ∷ []))) (latched s) n _ l.0 l.1
        ∙ sent_off played (step (latched s) (short f)) (used (latched s)) n k _ e refused_state (ne_eqb k 0 (λ z. omega arith))

    refused_always : Always (Written s []) s (writes a list j (f ∷ fs) n)
    unfolding writes write
    refused_always =
        let l = latch s h in
        always_does (Written s []) s (short (0x06 ∷ [])) _ (none_written s s [] refl h.idle (kept_self s h))
        (along (sent_on moments (step s (short (0x06 ∷ []))) (latched s) n _ l.0 l.1)
        (always_does (Written s []) (latched s) (short f) _ (none_written s (latched s) [] refl h.idle (latched_kept s h))
        (along (sent_off moments (step (latched s) (short f)) (used (latched s)) n k _ e refused_state (ne_eqb k 0 (λ z. omega arith)))
        (always_ends (Written s []) (used (latched s)) k n (none_written s (used (latched s)) [] refl h.idle refused_kept)))))

-- ---- on any chip that took the read

module _ (s : State) (h : Ready s) where
  eighth : (f : List ℕ) → Programs (set_aside s) f → wsp s.chip.rest ≡ true → (step (latched s) (short f)).number ≡ 8
  eighth f (programs p b bytes low few apart) w = program_8 (latched s) (latched_ready s h) refl p b bytes low few w

  eleventh : (f : List ℕ) → Programs (set_aside s) f → wsp s.chip.rest ≡ false → write_locked s.chip.rest.locks.protection 0x10000 ≡ true → (step (latched s) (short f)).number ≡ 11
  eleventh f (programs p b bytes low few apart) w l = program_past_8 (latched s) (latched_ready s h) refl p b bytes low few w apart ∙ ap (λ (x : Bool). pick x 11 0) l

  module _ (f : List ℕ) (fs : List (List ℕ)) (a : ℕ) (list : List ℕ) (ps : Each (Programs (set_aside s)) (f ∷ fs)) where
    -- the array with no write
    refused_came : (k : ℕ) → 3 ≤ k → chip_of s.chip.buffer (with_running Nothing (with_wel true (with_enable false s.chip.rest))) ≡ chip_left s.chip k f → (step (latched s) (short f)).number ≡ k → Came s (f ∷ fs) (at k) (played s (writes a list 0 (f ∷ fs) 0))
    refused_came k more leaves e =
        subst (Came s (f ∷ fs) (at k)) (sym (refused_comes_to s h f fs a list 0 0 k more e))
        (record { number = refl; polls = refl; array = refl; kept = refused_kept s h f fs a list 0 0 k more e; chip = idle ∙ leaves })
      where
        idle : (used (latched s)).chip ≡ chip_of s.chip.buffer (with_running Nothing (with_wel true (with_enable false s.chip.rest)))
        idle = λ i. chip_of s.chip.buffer (with_running (h.idle i) (with_wel true (with_enable false s.chip.rest)))

    pub writes_given : Came s (f ∷ fs) (writes_account s.chip.rest (length (f ∷ fs)) a list) (played s (writes a list 0 (f ∷ fs) 0))
    writes_given = go (wsp s.chip.rest) (write_locked s.chip.rest.locks.protection 0x10000) refl refl
      where
        c : ℕ
        c = suc (length fs)

        w : ℕ
        w = completed a list 0 c

        go : (x y : Bool) → wsp s.chip.rest ≡ x → write_locked s.chip.rest.locks.protection 0x10000 ≡ y
            → Came s (f ∷ fs) (pick x (at 8) (pick y (at 11) (account_of (pick (eqb w c) 0 18) (polls_from a list 0 c) w))) (played s (writes a list 0 (f ∷ fs) 0))
        go true y d e = refused_came 8 (omega arith) refl (eighth f (each_first ps) d)
        go false true d e = refused_came 11 (omega arith) refl (eleventh f (each_first ps) d e)
        go false false d e =
            let k = writes_come_to a list (f ∷ fs) 0 0 s (record { ready = h; page = d; bare = e }) ps in
            let z : 0 + polls_from a list 0 c ≡ polls_from a list 0 c = omega arith in
            record { number = k.number; polls = k.polls ∙ z; array = k.array; kept = k.kept; chip = k.chip }

    -- with 8 or 11 nothing is written
    pub refused_moments : (wsp s.chip.rest || write_locked s.chip.rest.locks.protection 0x10000) ≡ true → (j n : ℕ) → Always (Written s []) s (writes a list j (f ∷ fs) n)
    refused_moments t j n = go (wsp s.chip.rest) (write_locked s.chip.rest.locks.protection 0x10000) refl refl t
      where
        go : (x y : Bool) → wsp s.chip.rest ≡ x → write_locked s.chip.rest.locks.protection 0x10000 ≡ y → (x || y) ≡ true → Always (Written s []) s (writes a list j (f ∷ fs) n)
        go true y d e t = refused_always s h f fs a list j n 8 (omega arith) (eighth f (each_first ps) d)
        go false true d e t = refused_always s h f fs a list j n 11 (omega arith) (eleventh f (each_first ps) d e)
        go false false d e t = absurd (false≢true t)

    pub writes_moments : (j n : ℕ) → Always (Written s (f ∷ fs)) s (writes a list j (f ∷ fs) n)
    writes_moments j n = go (wsp s.chip.rest) (write_locked s.chip.rest.locks.protection 0x10000) refl refl
      where
        none : Always (Written s []) s (writes a list j (f ∷ fs) n) → Always (Written s (f ∷ fs)) s (writes a list j (f ∷ fs) n)
        none k t m = some_written s t (f ∷ fs) (k t m)

        go : (x y : Bool) → wsp s.chip.rest ≡ x → write_locked s.chip.rest.locks.protection 0x10000 ≡ y → Always (Written s (f ∷ fs)) s (writes a list j (f ∷ fs) n)
        go true y d e = none (refused_moments (rw d) j n)
        go false true d e = none (refused_moments (rw (d, e)) j n)
        go false false d e = always_writes a list (f ∷ fs) j n s (record { ready = h; page = d; bare = e }) ps
