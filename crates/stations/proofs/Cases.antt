-- Each case is computed: where one fails, the error shows its sentence. Assumes nothing.
use Prim.Native.Nat.{ℕ}
use Prim.Native.String.{String}
use mathlib.Core.Path.{◌≡◌, refl}
use mathlib.Core.Bool.{Bool, true, false, ◌&&◌, false≢true}
use mathlib.Core.List.{List, [], ◌∷◌}
use lib.Dec.{eqb}
use borrow.Author.Tests.{eqb-true}
use Rattle.rules.specs.Words.{pick, bit, holds, overlap, Each, end, ◌next◌}
use Rattle.rules.specs.Blocks.{blocks, wide, seek, block_of, block_at, write_locked, unlocked}
use Rattle.rules.specs.Works.{finish}
use Rattle.rules.specs.Frames.{frames, find, form_of}
use Rattle.rules.specs.Reading.{shown, place_cell}
use Rattle.rules.specs.WellFormed.{locks_right, first_ff, works_right, well_formed}
use Rattle.rules.specs.Programs.{blank}
use Rattle.rules.specs.Numbers.{frame_tests, command_tests, completion_tests}
use Rattle.rules.specs.Machine.{worked_array_lem, worked_security_lem, frame_chip, frame_cell_lem, frame_reply, frame_marks, frame, completed_chip_lem, completion, step}
use Rattle.rules.proofs.Bools.{and_split}
use Rattle.rules.proofs.Cases.{none_in_front}
use Rattle.stations.specs.Slots.{all_below, some_below, first_from, those_from, byte_of, empty, live, dead, station, live_of, passed_over_lem, bytes_of}
use Rattle.stations.specs.Plans.{clearings}
use Rattle.stations.specs.Calls.{played, polling, calling, store_call, lookup_call}
use Rattle.stations.specs.Promises.{stored, looked_up}
use Rattle.stations.specs.Given.{completed, polls_from}
use Rattle.stations.specs.Cases.{Case, cases, CasesHold}

same : List ℕ → List ℕ → Bool
same [] [] = true
same [] (m ∷ ms) = false
same (n ∷ ns) [] = false
same (n ∷ ns) (m ∷ ms) = eqb n m && same ns ms

same_is : (l m : List ℕ) → same l m ≡ true → l ≡ m
unfolding same
same_is [] [] e = refl
same_is [] (m ∷ ms) e = absurd (false≢true e)
same_is (n ∷ ns) [] e = absurd (false≢true e)
same_is (n ∷ ns) (m ∷ ms) e =
    let t = and_split (eqb n m) (same ns ms) e in
    let p = eqb-true n m t.0 in
    let q = same_is ns ms t.1 in
    λ i. p i ∷ q i

-- the sentence, where the case fails
failing : Case → List String
failing c = pick (same c.gives c.must) [] (c.sentence ∷ [])

-- case by case, so that an error shows which one fails
none_fails : Each (λ c. failing c ≡ []) cases
unfolding failing same cases all_below some_below first_from those_from byte_of empty live dead station live_of passed_over_lem bytes_of clearings played polling calling store_call lookup_call stored looked_up completed polls_from bit holds seek block_of block_at blocks wide write_locked blank frames find form_of shown place_cell locks_right frame_tests command_tests completion_tests worked_array_lem worked_security_lem frame_chip frame_cell_lem frame_reply frame_marks frame completed_chip_lem completion step well_formed works_right first_ff unlocked overlap finish
none_fails =
    refl next refl next refl next refl next refl next refl next refl next refl next refl next refl next
    refl next refl next refl next refl next refl next refl next refl next refl next refl next refl next
    refl next refl next refl next refl next refl next refl next refl next refl next refl next refl next
    refl next refl next refl next refl next refl next refl next refl next refl next refl next refl next
    refl next refl next refl next refl next refl next refl next refl next refl next refl next refl next
    refl next refl next refl next refl next refl next refl next refl next refl next refl next refl next
    refl next refl next refl next refl next refl next refl next refl next end

holds_of : (c : Case) → failing c ≡ [] → c.gives ≡ c.must
unfolding failing
holds_of c e = same_is c.gives c.must (none_in_front (same c.gives c.must) c.sentence [] [] e).0

all_hold : (cs : List Case) → Each (λ c. failing c ≡ []) cs → Each (λ c. c.gives ≡ c.must) cs
all_hold [] end = end
all_hold (c ∷ cs) (e next es) = holds_of c e next all_hold cs es

pub cases_hold : CasesHold
unfolding cases
cases_hold = record { hold = all_hold cases none_fails; whole = refl }
