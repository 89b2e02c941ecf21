-- What a line expects of what comes, by its slots.
use Rattle.std.specs.Prelude.{ℕ, List, eqb, get_or, Option, Some, None}
use Rattle.rules.specs.Words.{pick}
use Rattle.grammar.specs.Slots as slots
use Rattle.expecting.specs.declared.Expectation.{Expectation}
use Rattle.expecting.specs.declared.Expected.{Expected}

-- the number after `!`, none where no `!` stands
abbrev pub number_expected : List ℕ → Option ℕ
number_expected s = pick (eqb (get_or s slots.judged 0) 0) None (Some (get_or s slots.refused 0))

-- `count` bytes after `=`, or `= kept`
abbrev pub reply_expected : List ℕ → ℕ → Expected
reply_expected s count = pick (eqb (get_or s slots.expecting 0) 1) (Expected.Bytes count) (pick (eqb (get_or s slots.expecting 0) 2) Expected.Kept Expected.Nothing)

abbrev pub expectation : List ℕ → ℕ → Expectation
expectation s count = record { number = number_expected s; reply = reply_expected s count }
