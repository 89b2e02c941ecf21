-- Each sentence of "A well-formed chip record" at its records, computed. Assumes nothing.
use Prim.Native.String.{String}
use mathlib.Core.Path.{◌≡◌, refl}
use mathlib.Core.Bool.{beq}
use mathlib.Core.List.{List, [], ◌∷◌}
use Rattle.rules.specs.Words.{bit, pick, Each, end, ◌next◌, holds, overlap}
use Rattle.rules.specs.Blocks.{wide, blocks, block_at, unlocked}
use Rattle.rules.specs.Programs.{blank}
use Rattle.rules.specs.WellFormed.{first_ff, locks_right, works_right, well_formed}
use Rattle.rules.specs.CasesOfRecords.{RecordCase, records, RecordsHold}
use Rattle.rules.proofs.Bools.{same_flag}
use Rattle.rules.proofs.Cases.{none_in_front}

-- the sentences that fail
failing_records : List RecordCase → List String
failing_records [] = []
failing_records (r ∷ rs) = let rest = failing_records rs in pick (beq (well_formed r.chip) r.formed) rest (r.sentence ∷ rest)

none_fails : failing_records records ≡ []
unfolding failing_records records bit holds overlap wide blocks block_at unlocked blank first_ff locks_right works_right well_formed
none_fails = refl

records_hold_of : (rs : List RecordCase) → failing_records rs ≡ [] → Each (λ r. well_formed r.chip ≡ r.formed) rs
unfolding failing_records
records_hold_of [] e = end
records_hold_of (r ∷ rs) e =
    let h = none_in_front (beq (well_formed r.chip) r.formed) r.sentence (failing_records rs) (failing_records rs) e in
    same_flag (well_formed r.chip) r.formed h.0 next records_hold_of rs h.1

pub records_hold : RecordsHold
unfolding records
records_hold = record { hold = records_hold_of records none_fails; whole = refl }
