-- A script's bytes one by one; a line that has ended is played.
use Rattle.std.specs.Prelude.{ℕ, ◌≡◌, Bool, true, false, List}
use Rattle.script.specs.declared.Line.{Line}
use Rattle.script.specs.declared.Reading.{Reading}
use Rattle.script.specs.Lines.{line_of, StepPromise}
use Rattle.standing.specs.declared.Deed.{Deed}
use Rattle.standing.specs.declared.Playing.{Playing}
use Rattle.standing.specs.Deeds.{deed_of}
use Rattle.standing.specs.Benches.{with_reading, next_line, wrong_counted}
use Rattle.arranging.specs.Settings.{SettingPlayed}
use Rattle.asking.specs.Questions.{QuestionPlayed}
use Rattle.happening.specs.Events.{EventPlayed}

-- what is lent stays as it is
pub record Untouched (array security reply marks array' security' reply' marks' : List ℕ) : Type 0 where
  pub array_is : array' ≡ array
  pub security_is : security' ≡ security
  pub reply_is : reply' ≡ reply
  pub marks_are : marks' ≡ marks

-- a line by what it asks for. What is done with a file is left to whoever reads and writes it: crate posting; what is done with the station list to crate calling
abbrev pub Done : Deed → Playing → Line → List ℕ → List ℕ → List ℕ → List ℕ → List ℕ → List ℕ → List ℕ → Playing → List ℕ → List ℕ → List ℕ → List ℕ → Type 0
Done Deed.Nothing p l array security sent expected known reply marks p' array' security' reply' marks' =
    (p' ≡ p) × Untouched array security reply marks array' security' reply' marks'
Done (Deed.Event e) p l array security sent expected known reply marks p' array' security' reply' marks' =
    EventPlayed p e l array security sent expected known reply marks p' array' security' reply' marks'
Done (Deed.Setting s) p l array security sent expected known reply marks p' array' security' reply' marks' =
    SettingPlayed p s l.slots array security p' array' security' × ((reply' ≡ reply) × (marks' ≡ marks))
Done (Deed.Question q) p l array security sent expected known reply marks p' array' security' reply' marks' =
    QuestionPlayed q p l array security expected known p' × Untouched array security reply marks array' security' reply' marks'
Done (Deed.Post f) p l array security sent expected known reply marks p' array' security' reply' marks' =
    (p' ≡ p) × Untouched array security reply marks array' security' reply' marks'
Done (Deed.Call k) p l array security sent expected known reply marks p' array' security' reply' marks' =
    (p' ≡ p) × Untouched array security reply marks array' security' reply' marks'
Done Deed.Wrong p l array security sent expected known reply marks p' array' security' reply' marks' =
    (p' ≡ wrong_counted p) × Untouched array security reply marks array' security' reply' marks'

abbrev pub Played : Playing → Line → List ℕ → List ℕ → List ℕ → List ℕ → List ℕ → List ℕ → List ℕ → Playing → List ℕ → List ℕ → List ℕ → List ℕ → Type 0
Played p l = Done (deed_of l.verb) (next_line p) l

-- ---- a byte

-- where it ended a line, that line is played
abbrev pub PlayedIf : Bool → Playing → List ℕ → List ℕ → List ℕ → List ℕ → List ℕ → List ℕ → List ℕ → Playing → List ℕ → List ℕ → List ℕ → List ℕ → Type 0
PlayedIf true p array security sent expected known reply marks p' array' security' reply' marks' =
    Played p (line_of p.reading) array security sent expected known reply marks p' array' security' reply' marks'
PlayedIf false p array security sent expected known reply marks p' array' security' reply' marks' =
    (p' ≡ p) × Untouched array security reply marks array' security' reply' marks'

pub record Taken (p : Playing) (b : ℕ) (array security sent expected known remark reply marks : List ℕ) (p' : Playing) (array' security' sent' expected' known' remark' reply' marks' : List ℕ) : Type 0 where
  pub reading : Reading
  pub read : StepPromise p.reading b sent expected known remark reading sent' expected' known' remark'
  pub played : PlayedIf reading.ended (with_reading p reading) array security sent' expected' known' reply marks p' array' security' reply' marks'
