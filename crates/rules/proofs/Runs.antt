-- Demand 2 over runs: a chain of outcomes that meet the guarantees is the machine's run; it exists, and there is one only. Assumes nothing.
use Prim.Native.Nat.{ℕ, zero, suc, ◌+◌, ◌≤◌, ◌<◌}
use mathlib.Core.Path.{◌≡◌, refl, sym, ap, ap₂, ◌∙◌, subst}
use mathlib.Core.Bool.{Bool, true, false, ◌&&◌}
use mathlib.Core.List.{List, [], ◌∷◌}
use native.Mathlib.Omega.{arith}
use lib.Dec.{eqb, ltb}
use lib.ListN.{length, get_or, get_or-eq_default}
use borrow.Author.Tests.{eqb-true, ltb-true, le-ltb}
use Rattle.rules.specs.declared.Range.{Range}
use Rattle.rules.specs.declared.Tear.{Tear}
use Rattle.rules.specs.declared.Work.{Work}
use Rattle.rules.specs.Words.{pick, one_of, every, holds, Lent, lent, written}
use Rattle.rules.specs.Blocks.{array_size_lem, security_size_lem}
use Rattle.rules.specs.Works.{array_range, security_range, all, finish}
use Rattle.rules.specs.WellFormed.{numbers_right, well_formed}
use Rattle.rules.specs.Numbers.{answer_number, State, state_right, first, frame_tests, completion_tests, cut_tests}
use Rattle.rules.specs.Machine.{Outcome, worked_array_lem, worked_security_lem, stops, frame_reply, frame_marks, frame, completion, power_cut, step, run}
use Rattle.rules.specs.Given.{frame_numbers, completion_numbers, cut_numbers}
use Rattle.rules.specs.Promises.{Bench, Carried, Returned, state_of, frame_of, outcome_of}
use Rattle.rules.specs.Demands.{Call, frame_call, completion_call, cut_call, Meets, bench_after, Chain, event_of, events_of, outcomes_of, AllWellFormed, Demand2}
use Rattle.rules.proofs.Bools.{and_split, never}
use Rattle.rules.proofs.Blocks.{holds_at}
use Rattle.rules.proofs.Ranges.{array_inside, security_inside}
use Rattle.rules.proofs.Effects.{finish_outside}
use Rattle.rules.proofs.Numbers.{frame_given, completion_given, cut_given, accepted_right}
use Rattle.rules.proofs.Promises.{lent_ext, refusal_of, answer_of, answer_number_lem, returned_one}
use Rattle.rules.proofs.WellFormed.{well_of, step_well_formed}

-- ---- each outcome is the machine's

meets_machine : (b : Bench) (e : Call) (g : Returned) → Meets b e g → outcome_of g ≡ step (state_of b) (event_of e)
unfolding step
meets_machine b (frame_call f) g h = h.outcome
meets_machine b completion_call g h = h.outcome
meets_machine b (cut_call t) g h = h.outcome

chain_machine : (b : Bench) (es : List Call) (gs : List Returned) → Chain b es gs → outcomes_of gs ≡ run (state_of b) (events_of es)
unfolding run
chain_machine b [] [] h = refl
chain_machine b [] (g ∷ gs) h = absurd h
chain_machine b (e ∷ es) [] h = absurd h
chain_machine b (e ∷ es) (g ∷ gs) h =
    ap (λ (os : List Outcome). outcome_of g ∷ os) (chain_machine (bench_after g) es gs h.1)
    ∙ ap (λ (o : Outcome). o ∷ run (record { chip = o.chip; array = o.array; security = o.security }) (events_of es)) (meets_machine b e g h.0)

chain_formed : (b : Bench) (es : List Call) (gs : List Returned) → Chain b es gs → well_formed b.chip ≡ true → AllWellFormed gs
chain_formed b [] [] h w = tt
chain_formed b [] (g ∷ gs) h w = absurd h
chain_formed b (e ∷ es) [] h w = absurd h
chain_formed b (e ∷ es) (g ∷ gs) h w =
    let f : well_formed g.after.chip ≡ true =
    ap well_formed (ap (λ (o : Outcome). o.chip) (meets_machine b e g h.0)) ∙ step_well_formed (state_of b) (event_of e) w in
    (f, chain_formed (bench_after g) es gs h.1 f)

pub demand_2 : (b : Bench) (es : List Call) (gs : List Returned) → Chain b es gs → Demand2 b es gs
demand_2 b es gs h = record { machine = chain_machine b es gs h; formed = chain_formed b es gs h }

-- ---- there is one chain only

meets_one : (b : Bench) (e : Call) (g k : Returned) → Meets b e g → Meets b e k → g ≡ k
meets_one b e g k p q = returned_one g k (meets_machine b e g p ∙ sym (meets_machine b e k q))

pub chain_one : (b : Bench) (es : List Call) (gs ks : List Returned) → Chain b es gs → Chain b es ks → gs ≡ ks
chain_one b [] [] [] p q = refl
chain_one b [] [] (k ∷ ks) p q = absurd q
chain_one b [] (g ∷ gs) ks p q = absurd p
chain_one b (e ∷ es) [] ks p q = absurd p
chain_one b (e ∷ es) (g ∷ gs) [] p q = absurd q
chain_one b (e ∷ es) (g ∷ gs) (k ∷ ks) p q =
    let h = meets_one b e g k p.0 q.0 in
    ap₂ (λ (x : Returned) (xs : List Returned). x ∷ xs) h (chain_one (bench_after g) es gs ks p.1 (subst (λ (x : Returned). Chain (bench_after x) es ks) (sym h) q.1))

-- ---- and it exists: the machine's memories are lists

-- the bytes of a memory, from place i on
bytes : ℕ → ℕ → (ℕ → ℕ) → List ℕ
bytes i zero f = []
bytes i (suc n) f = f i ∷ bytes (suc i) n f

length_bytes : (i n : ℕ) (f : ℕ → ℕ) → length (bytes i n f) ≡ n
unfolding bytes
length_bytes i zero f = refl
length_bytes i (suc n) f = ap suc (length_bytes (suc i) n f)

get_d_bytes : (i n : ℕ) (f : ℕ → ℕ) (k : ℕ) → k < n → get_or (bytes i n f) k 0 ≡ f (i + k)
unfolding bytes
get_d_bytes i zero f k h = absurd (omega arith)
get_d_bytes i (suc n) f zero h = let e : i ≡ i + 0 = omega arith in ap f e
get_d_bytes i (suc n) f (suc k) h = let e : suc i + k ≡ i + suc k = omega arith in get_d_bytes (suc i) n f k (omega arith) ∙ ap f e

list_of : Lent → List ℕ
list_of m = bytes 0 m.size m.byte

-- a memory with nothing past its end is that of a list
Tame : Lent → Type 0
Tame m = (i : ℕ) → m.size ≤ i → m.byte i ≡ 0

list_back : (m : Lent) → Tame m → lent (list_of m) ≡ m
unfolding list_of Tame
list_back m t = lent_ext (length_bytes 0 m.size m.byte) (λ i. go i (ltb i m.size) refl)
  where
    go : (i : ℕ) (b : Bool) → ltb i m.size ≡ b → get_or (list_of m) i 0 ≡ m.byte i
    go i true e = let z : 0 + i ≡ i = omega arith in get_d_bytes 0 m.size m.byte i (ltb-true i m.size e) ∙ ap m.byte z
    go i false e =
        let l = length_bytes 0 m.size m.byte in
        let h = borrow.Author.Tests.ltb-false i m.size e in
        get_or-eq_default (list_of m) 0 (omega arith) ∙ sym (t i h)

tame_lent : (l : List ℕ) → Tame (lent l)
unfolding Tame
tame_lent l i h = get_or-eq_default l 0 h

tame_written : (n : ℕ) (f : ℕ → ℕ) → Tame (written n f)
unfolding Tame
tame_written n f i h = rw (le-ltb i n h)

tame_finish : (w : Work) (r : Range) (b : List ℕ) (t : Tear) (m : Lent) → Tame m → r.start + r.size ≤ m.size → Tame (finish w r b t m)
unfolding Tame finish
tame_finish w r b t m tame fits i h = finish_outside w r b t m i (never (holds r i) (λ e. let g = holds_at r i e in omega arith)) ∙ tame i h

right_parts : (b : Bench) → state_right (state_of b) ≡ true → (numbers_right b.chip.rest.works.running ≡ true) × (length b.array ≡ array_size_lem) × (length b.security ≡ security_size_lem)
right_parts b e =
    let h₂ = and_split (well_formed b.chip && eqb (length b.array) array_size_lem) (eqb (length b.security) security_size_lem) e in
    let h₁ = and_split (well_formed b.chip) (eqb (length b.array) array_size_lem) h₂.0 in
    ((well_of b.chip h₁.0).works.running, eqb-true (length b.array) array_size_lem h₁.1, eqb-true (length b.security) security_size_lem h₂.1)

module _ (b : Bench) (t : Tear) where
  tame_array : (x : Bool) → (x ≡ true → state_right (state_of b) ≡ true) → Tame (worked_array_lem x t (state_of b))
  unfolding worked_array_lem
  tame_array true h =
      let p = right_parts b (h refl) in
      let i = array_inside b.chip.rest.works.running p.0 in
      let z = p.1 in
      tame_finish b.chip.rest.works.running (array_range b.chip.rest.works.running) b.chip.buffer t (lent b.array) (tame_lent b.array) (omega arith)
  tame_array false h = tame_lent b.array

  tame_security : (x : Bool) → (x ≡ true → state_right (state_of b) ≡ true) → Tame (worked_security_lem x t (state_of b))
  unfolding worked_security_lem
  tame_security true h =
      let p = right_parts b (h refl) in
      let i = security_inside b.chip.rest.works.running p.0 in
      let z = p.2 in
      tame_finish b.chip.rest.works.running (security_range b.chip.rest.works.running) b.chip.buffer t (lent b.security) (tame_lent b.security) (omega arith)
  tame_security false h = tame_lent b.security

-- a memory written, or left as it was lent
tame_either : (x : Bool) (l : List ℕ) (f : ℕ → ℕ) → Tame (pick x (lent l) (written (length l) f))
tame_either true l f = tame_lent l
tame_either false l f = tame_written (length l) f

tame_reply : (n : ℕ) (s : State) (f : Carried) → Tame (frame_reply n s (frame_of f))
unfolding frame_reply
tame_reply n s f = tame_either (eqb n 1) f.reply _

tame_marks : (n : ℕ) (s : State) (f : Carried) → Tame (frame_marks n s (frame_of f))
unfolding frame_marks
tame_marks n s f = tame_either (eqb n 1) f.marks _

-- what a call gives, made of the machine's outcome
returned_by : Outcome → Returned
returned_by o =
    record { after = record { answer = answer_of o.number; chip = o.chip }; array = list_of o.array; security = list_of o.security; reply = list_of o.reply; marks = list_of o.marks }

returned_back : (o : Outcome) (ns : List ℕ) → every (λ n. eqb (answer_number (answer_of n)) n) ns ≡ true → one_of o.number ns ≡ true → Tame o.array → Tame o.security → Tame o.reply → Tame o.marks → outcome_of (returned_by o) ≡ o
unfolding returned_by
returned_back o ns e n a s y m =
    let p = answer_number_lem ns e o.number n in
    let q = list_back o.array a in
    let r = list_back o.security s in
    let t = list_back o.reply y in
    let u = list_back o.marks m in
    λ i. record { number = p i; chip = o.chip; array = q i; security = r i; reply = t i; marks = u i }

pub meets_some : (b : Bench) (e : Call) → (g : Returned) × Meets b e g
unfolding frame completion power_cut returned_by list_of bytes answer_of refusal_of
meets_some b (frame_call c) =
    let s = state_of b in
    let f = frame_of c in
    let o = frame s f in
    let n = first (frame_tests s f) in
    let right : stops n f.sent ≡ true → state_right s ≡ true = λ h. (accepted_right s f (eqb-true n 0 (and_split (eqb n 0) _ h).0)).0 in
    (returned_by o, record { outcome = returned_back o frame_numbers refl (frame_given s f).no_other (tame_array b f.circumstances.tear (stops n f.sent) right) (tame_security b f.circumstances.tear (stops n f.sent) right) (tame_reply n s c) (tame_marks n s c) })
meets_some b completion_call =
    let s = state_of b in
    let o = completion s in
    let g = completion_given s in
    let n = first (completion_tests s) in
    let right : eqb n 0 ≡ true → state_right s ≡ true = λ h. (g.is_0.0 (eqb-true n 0 h)).0 in
    (returned_by o, record { outcome = returned_back o completion_numbers refl g.no_other (tame_array b all (eqb n 0) right) (tame_security b all (eqb n 0) right) (tame_lent []) (tame_lent []) })
meets_some b (cut_call t) =
    let s = state_of b in
    let o = power_cut s t in
    let g = cut_given s t in
    let n = first (cut_tests s) in
    let right : eqb n 0 ≡ true → state_right s ≡ true = λ h. g.is_0.0 (eqb-true n 0 h) in
    (returned_by o, record { outcome = returned_back o cut_numbers refl g.no_other (tame_array b t (eqb n 0) right) (tame_security b t (eqb n 0) right) (tame_lent []) (tame_lent []) })

pub chain_some : (b : Bench) (es : List Call) → (gs : List Returned) × Chain b es gs
chain_some b [] = ([], tt)
chain_some b (e ∷ es) =
    let g = meets_some b e in
    let r = chain_some (bench_after g.0) es in
    (g.0 ∷ r.0, (g.1, r.1))
