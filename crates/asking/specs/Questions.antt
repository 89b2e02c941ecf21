-- What a script asks: nothing on the chip changes, but what it expects may not be met.
use Rattle.std.specs.Prelude.{ℕ, ◌+◌, ◌%◌, ◌≡◌, Bool, true, false, not, ◌||◌, List, [], ◌∷◌, eqb, ltb, length}
use Rattle.rules.specs.declared.Rest.{Rest}
use Rattle.rules.specs.Words.{pick}
use Rattle.rules.specs.Blocks.{array_size_lem, security_size_lem}
use Rattle.rules.specs.Registers.{status, configuration}
use Rattle.grammar.specs.Slots as slots
use Rattle.script.specs.declared.Line.{Line}
use Rattle.expecting.specs.Expectations.{First, unheld}
use Rattle.fields.specs.Records.{slot, same_record_lem}
use Rattle.tallies.specs.Tallies.{after_unmet}
use Rattle.standing.specs.declared.Bench.{Bench}
use Rattle.standing.specs.declared.Playing.{Playing}
use Rattle.standing.specs.declared.Question.{Question}
use Rattle.standing.specs.Benches.{front, bench_of}

-- one more expectation of the script is not met
abbrev pub one_unmet : Bench → Bench
one_unmet b = bench_of b.chip (after_unmet b.tally 1) b.line b.array b.security b.full b.strict

abbrev pub answered : Playing → Bench → ℕ → ℕ → Playing
answered p b number held = record { bench = b; reading = p.reading; before = p.before; number = number; verdict = p.verdict; held = held }

-- ---- bytes

-- n places are compared with the expected bytes, over and over: not met where one differs, they do not come out even, or the memory has no such places
abbrev pub unmet_at : ℕ → ℕ → ℕ → ℕ → ℕ → Bool
unmet_at held size start n count = ltb held n || not (eqb (pick (eqb count 0) 0 (n % count)) 0) || ltb size (start + n)

abbrev pub compared_to : Playing → ℕ → ℕ → ℕ → ℕ → ℕ → Playing
compared_to p held size start n count = answered p (pick (unmet_at held size start n count) (one_unmet p.bench) p.bench) p.number held

pub record Compared (p : Playing) (start n : ℕ) (memory expected known : List ℕ) (p' : Playing) : Type 0 where
  pub first : First (unheld memory start expected known (length expected)) n p'.held
  pub playing : p' ≡ compared_to p p'.held (length memory) start n (length expected)

-- where a line expects nothing, nothing is compared
abbrev pub ComparedIf : Bool → Playing → ℕ → ℕ → List ℕ → List ℕ → List ℕ → Playing → Type 0
ComparedIf true p start n memory expected known p' = p' ≡ p
ComparedIf false p start n memory expected known p' = Compared p start n memory expected known p'

-- ---- the questions

-- the status and, where two bytes are expected, the configuration
abbrev pub registers_of : Rest → List ℕ
registers_of r = status r ∷ configuration r ∷ []

abbrev pub silent : Line → Bool
silent l = eqb (slot l.slots slots.expecting) 0

abbrev pub QuestionPlayed : Question → Playing → Line → List ℕ → List ℕ → List ℕ → List ℕ → Playing → Type 0
QuestionPlayed Question.Status p l array security expected known p' =
    let x = front l.expected expected in
    ComparedIf (silent l) p 0 (length x) (registers_of p.bench.chip.rest) x (front l.expected known) p'
QuestionPlayed Question.Work p l array security expected known p' = p' ≡ p
QuestionPlayed Question.Locks p l array security expected known p' = p' ≡ p
QuestionPlayed Question.Dump p l array security expected known p' =
    let memory = pick (eqb (slot l.slots slots.of_id) 0) (front array_size_lem array) (front security_size_lem security) in
    ComparedIf (silent l) p (slot l.slots slots.from) (slot l.slots slots.size) memory (front l.expected expected) (front l.expected known) p'
QuestionPlayed Question.Is p l array security expected known p' =
    p' ≡ pick (same_record_lem p.bench.chip l.slots) p (answered p (one_unmet p.bench) 1 p.held)
