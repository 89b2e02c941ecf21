-- The writes of a store in a row: each goes on from where the one before ended, if it is done. Assumes nothing.
use Prim.Native.Nat.{ℕ, suc, ◌+◌, ◌-◌, ◌<◌, ◌≤◌}
use mathlib.Core.Path.{◌≡◌, sym, ap, ◌∙◌}
use mathlib.Core.Bool.{Bool, true, false}
use mathlib.Core.List.{List, ◌∷◌}
use native.Mathlib.Omega.{arith}
use lib.ListN.{get_or}
use borrow.Author.Tests.{eq-eqb, ne_eqb}
use Rattle.rules.specs.Words.{pick}
use Rattle.rules.specs.Numbers.{State}
use Rattle.rules.specs.Promises.{bench_of, state_of}
use Rattle.stations.specs.declared.StoreRecord.{StoreRecord}
use Rattle.stations.specs.Slots.{those_from}
use Rattle.stations.specs.Plans.{mark_frame, clearings}
use Rattle.stations.specs.Calls.{Script, ends, Ended, ended_of, played, write, writes}
use Rattle.stations.proofs.Sequel.{continued, write_then}
use Rattle.store.specs.Steps.{leaves}

-- ---- the first of some writes

module _ (s : State) (a e n : ℕ) (list : List ℕ) (j : ℕ) (f : List ℕ) (fs : List (List ℕ)) (r : StoreRecord) (array security : List ℕ)
    (entry : e ≡ get_or list j 0) (first : leaves r array security ≡ played s (write a e f n (ends 0))) where
  abbrev all : Ended
  all = played s (writes a list j (f ∷ fs) n)

  abbrev rest : ℕ → Script
  rest = writes a list (j + 1) fs

  one_more : suc j ≡ j + 1
  one_more = omega arith

  then : all ≡ continued (leaves r array security) rest
  unfolding writes
  then =
      ap (λ (x : ℕ). played s (write a x f n (writes a list (suc j) fs))) (sym entry)
      ∙ write_then s a e f n (writes a list (suc j) fs)
      ∙ ap (λ (x : Ended). continued x (writes a list (suc j) fs)) (sym first)
      ∙ ap (λ (k : ℕ). continued (leaves r array security) (writes a list k fs)) one_more

  pub ends_there : (r.number ≡ 0 → ⊥) → leaves r array security ≡ all
  unfolding continued
  ends_there h =
      sym (then ∙ ap (λ (b : Bool). pick b (played (leaves r array security).state (rest r.polls)) (leaves r array security)) (ne_eqb r.number 0 h))

  pub goes_on_from : r.number ≡ 0 → played (state_of (bench_of r.chip array security)) (rest r.polls) ≡ all
  unfolding continued
  goes_on_from h =
      sym (then ∙ ap (λ (b : Bool). pick b (played (leaves r array security).state (rest r.polls)) (leaves r array security)) (eq-eqb r.number 0 h))

-- ---- the clears, from slot i on

module _ (t : ℕ → Bool) (i : ℕ) (below : i < 2048) where
  those_next : those_from t i (2048 - i) ≡ pick (t i) (i ∷ those_from t (i + 1) (2048 - (i + 1))) (those_from t (i + 1) (2048 - (i + 1)))
  unfolding those_from
  those_next =
      let more : 2048 - i ≡ suc (2048 - (i + 1)) = omega arith in
      let next : suc i ≡ i + 1 = omega arith in
      ap (those_from t i) more
      ∙ ap (λ (k : ℕ). pick (t i) (i ∷ those_from t k (2048 - (i + 1))) (those_from t k (2048 - (i + 1)))) next

  module _ (s : State) (a : ℕ) (list : List ℕ) (j n : ℕ) where
    clears_as : (b : Bool) → t i ≡ b
        → played s (writes a list j (clearings (pick b (i ∷ those_from t (i + 1) (2048 - (i + 1))) (those_from t (i + 1) (2048 - (i + 1))))) n)
        ≡ played s (writes a list j (clearings (those_from t i (2048 - i))) n)
    clears_as b e =
        ap (λ (xs : List ℕ). played s (writes a list j (clearings xs) n))
        (sym (those_next ∙ ap (λ (x : Bool). pick x (i ∷ those_from t (i + 1) (2048 - (i + 1))) (those_from t (i + 1) (2048 - (i + 1)))) e))

    -- the slot is one of them
    pub clears_here : t i ≡ true
        → played s (writes a list j (mark_frame i 0x00 0x00 ∷ clearings (those_from t (i + 1) (2048 - (i + 1)))) n)
        ≡ played s (writes a list j (clearings (those_from t i (2048 - i))) n)
    unfolding clearings
    clears_here e = clears_as true e

    -- it is not
    pub clears_past : t i ≡ false
        → played s (writes a list j (clearings (those_from t (i + 1) (2048 - (i + 1)))) n) ≡ played s (writes a list j (clearings (those_from t i (2048 - i))) n)
    clears_past e = clears_as false e

pub clears_end : (t : ℕ → Bool) (i : ℕ) → 2048 ≤ i → (s : State) (a : ℕ) (list : List ℕ) (j n : ℕ) → ended_of 0 n s ≡ played s (writes a list j (clearings (those_from t i (2048 - i))) n)
unfolding clearings writes played those_from
clears_end t i h s a list j n =
    let z : 2048 - i ≡ 0 = omega arith in
    ap (λ (k : ℕ). played s (writes a list j (clearings (those_from t i k)) n)) (sym z)
