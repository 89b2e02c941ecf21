-- A table of cases holds of the machine: what antt computes of a section gives the sentences that fail, and a law turns none of them into the
-- statement. Assumes nothing.
use Prim.Native.Nat.{ℕ}
use Prim.Native.String.{String}
use mathlib.Core.Path.{◌≡◌, refl, sym, ◌∙◌}
use mathlib.Core.Bool.{Bool, true, false, ◌&&◌}
use mathlib.Core.List.{List, [], ◌∷◌, ◌++◌}
use native.Mathlib.Omega.{arith}
use lib.Dec.{eqb}
use borrow.Author.Tests.{eqb-true}
use Rattle.rules.specs.Words.{pick, every, Each, end, ◌next◌}
use Rattle.rules.specs.Numbers.{State, state_right}
use Rattle.rules.specs.Machine.{Outcome, completes, step, run}
use Rattle.rules.specs.Cases.{Seen, Case, Section, seen_in, new_state, state_after, last_of, AllSeen, CasesHold, SectionsHold}
use Rattle.rules.proofs.Bools.{and_split}
use Rattle.rules.proofs.Quick.{quick, fits, quick_after, quick_last, quick_is, after_is, last_is, after_right, new_right}

-- ---- the sentences that fail

unfoldable pub case_holds_lem : State → Case → Bool
case_holds_lem s c =
    every fits c.events
    && quick s completes (λ before. quick_last before s c.events (λ o. every (λ x. eqb (seen_in o x.look) x.value) c.seen))

unfoldable pub failing_of : State → List Case → List String
failing_of s [] = []
failing_of s (c ∷ cs) = let rest = failing_of s cs in pick (case_holds_lem s c) rest (c.sentence ∷ rest)

-- of a section on a chip of each of its parts
abbrev failing_on : List Bool → Section → List String
failing_on [] t = []
failing_on (p ∷ ps) t = quick_after (new_state p) t.start (λ s. failing_of s t.cases) ++ failing_on ps t

-- of a section: its title where the events in front of it do not fit
unfoldable pub failing : Section → List String
failing t = pick (every fits t.start) (failing_on t.parts t) (t.title ∷ [])

-- section by section, so that an error shows which one fails
abbrev pub NoneFails : List Section → Type 0
NoneFails ts = Each (λ t. failing t ≡ []) ts

-- ---- no sentence fails, so the table holds

pub none_in_front : (b : Bool) (x : String) (xs ys : List String) → pick b xs (x ∷ ys) ≡ [] → (b ≡ true) × (xs ≡ [])
none_in_front true x xs ys e = (refl, e)
none_in_front false x xs ys e = absurd (let z : ◌≡◌ {A = ℕ} 0 1 = cc in omega arith)

all_seen : (o : Outcome) (xs : List Seen) → every (λ x. eqb (seen_in o x.look) x.value) xs ≡ true → AllSeen o xs
all_seen o [] e = end
all_seen o (x ∷ xs) e =
    let h = and_split (eqb (seen_in o x.look) x.value) (every (λ x. eqb (seen_in o x.look) x.value) xs) e in
    eqb-true (seen_in o x.look) x.value h.0 next all_seen o xs h.1

case_holds : (s : State) (c : Case) → state_right s ≡ true → case_holds_lem s c ≡ true → AllSeen (last_of (step s completes) (run s c.events)) c.seen
unfolding case_holds_lem
case_holds s c r e =
    let h = and_split (every fits c.events) _ e in
    let k : Outcome → Bool = λ o. every (λ x. eqb (seen_in o x.look) x.value) c.seen in
    all_seen (last_of (step s completes) (run s c.events)) c.seen
    (sym (last_is (step s completes) s c.events k r h.0) ∙ sym (quick_is s completes (λ before. quick_last before s c.events k) r refl) ∙ h.1)

cases_hold : (s : State) (cs : List Case) → state_right s ≡ true → failing_of s cs ≡ [] → CasesHold s cs
unfolding failing_of
cases_hold s [] r e = end
cases_hold s (c ∷ cs) r e =
    let h = none_in_front (case_holds_lem s c) c.sentence (failing_of s cs) (failing_of s cs) e in
    case_holds s c r h.0 next cases_hold s cs r h.1

none_of_both : (xs ys : List String) → xs ++ ys ≡ [] → (xs ≡ []) × (ys ≡ [])
none_of_both [] ys e = (refl, e)
none_of_both (x ∷ xs) ys e = absurd (let z : ◌≡◌ {A = ℕ} 0 1 = cc in omega arith)

section_holds : (t : Section) → failing t ≡ [] → Each (λ p. CasesHold (state_after (new_state p) t.start) t.cases) t.parts
unfolding failing
section_holds t e = let k = none_in_front (every fits t.start) t.title _ [] e in each t.parts k.0 k.1
  where
    each : (ps : List Bool) → every fits t.start ≡ true → failing_on ps t ≡ [] → Each (λ p. CasesHold (state_after (new_state p) t.start) t.cases) ps
    each [] f e = end
    each (p ∷ ps) f e =
        let h = none_of_both (quick_after (new_state p) t.start (λ s. failing_of s t.cases)) (failing_on ps t) e in
        cases_hold (state_after (new_state p) t.start) t.cases (after_right (new_state p) t.start (new_right p))
        (sym (after_is (new_state p) t.start (λ s. failing_of s t.cases) (new_right p) f) ∙ h.0)
        next each ps f h.1

pub sections_hold : {ts : List Section} → NoneFails ts → SectionsHold ts
sections_hold end = end
sections_hold (◌next◌ {x = t} e es) = section_holds t e next sections_hold es
