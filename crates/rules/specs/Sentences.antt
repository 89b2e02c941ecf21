-- Every sentence of document 01 at cases on both sides: three tables, under one statement. Proved in proofs/Sentences.
use Rattle.std.specs.Prelude.{[], ◌∷◌}
use Rattle.rules.specs.Cases.{Holds}
use Rattle.rules.specs.CasesOfReading.{sentences_of_reading}
use Rattle.rules.specs.CasesOfWriting.{sentences_of_writing}
use Rattle.rules.specs.CasesOfEnding.{sentences_of_ending}

-- with how many values the cases of each section look at
pub record SentencesHold : Type 0 where
  pub of_reading : Holds sentences_of_reading (14 ∷ 49 ∷ 9 ∷ 8 ∷ 8 ∷ 14 ∷ 40 ∷ 25 ∷ 19 ∷ 43 ∷ 18 ∷ [])
  pub of_writing : Holds sentences_of_writing (25 ∷ 29 ∷ 155 ∷ 170 ∷ 80 ∷ 35 ∷ 35 ∷ [])
  pub of_ending : Holds sentences_of_ending (25 ∷ 8 ∷ 8 ∷ 28 ∷ 18 ∷ 18 ∷ 6 ∷ 12 ∷ 8 ∷ 22 ∷ 47 ∷ 11 ∷ 7 ∷ 11 ∷ 6 ∷ [])
