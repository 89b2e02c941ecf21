-- Each case is computed: where one fails, the error shows its sentence. Assumes nothing.
use Prim.Native.Nat.{ℕ}
use Prim.Native.String.{String}
use mathlib.Core.Path.{◌≡◌, refl}
use mathlib.Core.Bool.{Bool, true, false, ◌&&◌, false≢true}
use mathlib.Core.List.{List, [], ◌∷◌}
use lib.Dec.{eqb}
use borrow.Author.Tests.{eqb-true}
use Rattle.rules.specs.Words.{pick, bit, Each, end, ◌next◌}
use Rattle.rules.specs.WellFormed.{locks_right}
use Rattle.rules.proofs.Bools.{and_split}
use Rattle.rules.proofs.Cases.{none_in_front}
use Rattle.image.specs.Form.{high_first, number_from, total, record_of, registers}
use Rattle.image.specs.Files.{record_right, page_right_lem, registers_right, rest_in}
use Rattle.image.specs.Faults.{record_fault, registers_fault, page_fault, first_fault}
use Rattle.image.specs.Cases.{Case, cases, CasesHold}

same : List ℕ → List ℕ → Bool
same [] [] = true
same [] (m ∷ ms) = false
same (n ∷ ns) [] = false
same (n ∷ ns) (m ∷ ms) = eqb n m && same ns ms

same_is : (l m : List ℕ) → same l m ≡ true → l ≡ m
unfolding same
same_is [] [] e = refl
same_is [] (m ∷ ms) e = absurd (false≢true e)
same_is (n ∷ ns) [] e = absurd (false≢true e)
same_is (n ∷ ns) (m ∷ ms) e =
    let t = and_split (eqb n m) (same ns ms) e in
    let p = eqb-true n m t.0 in
    let q = same_is ns ms t.1 in
    λ i. p i ∷ q i

-- the sentence, where the case fails
failing : Case → List String
failing c = pick (same c.gives c.must) [] (c.sentence ∷ [])

-- case by case, so that an error shows which one fails
none_fails : Each (λ c. failing c ≡ []) cases
unfolding failing same cases high_first number_from total record_of registers record_right page_right_lem registers_right rest_in locks_right bit record_fault registers_fault page_fault first_fault
none_fails =
    refl next refl next refl next refl next refl next refl next refl next refl next
    refl next refl next refl next refl next refl next refl next refl next refl next
    refl next refl next refl next refl next refl next refl next refl next refl next
    refl next refl next refl next refl next refl next refl next refl next refl next
    refl next refl next refl next refl next refl next refl next refl next refl next
    refl next refl next refl next refl next refl next end

holds : (c : Case) → failing c ≡ [] → c.gives ≡ c.must
unfolding failing
holds c e = same_is c.gives c.must (none_in_front (same c.gives c.must) c.sentence [] [] e).0

all_hold : (cs : List Case) → Each (λ c. failing c ≡ []) cs → Each (λ c. c.gives ≡ c.must) cs
all_hold [] end = end
all_hold (c ∷ cs) (e next es) = holds c e next all_hold cs es

pub cases_hold : CasesHold
cases_hold = all_hold cases none_fails
