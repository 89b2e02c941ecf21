-- What is known of a frame that is judged, and the last tests of the list.
use Rattle.std.specs.Prelude.{ℕ, ◌≤◌, ◌≡◌, true, List, [], ◌∷◌, length}
use Rattle.rules.specs.declared.Form.{Form}
use Rattle.rules.specs.declared.Rest.{Rest}
use Rattle.rules.specs.Frames.{form_of, opcode}
use Rattle.rules.specs.WellFormed.{numbers_right}
use Rattle.rules.specs.Numbers.{Test, test, no_wel, closed, locked_target}

pub record Judgeable (r : Rest) (o : ℕ) (f : Form) (sent : List ℕ) : Type 0 where
  pub suspended : numbers_right r.works.suspended ≡ true
  pub first_byte : o ≡ opcode sent
  pub its_form : f ≡ form_of o
  pub fits : length sent ≤ 65536

-- 9 to 11
abbrev pub change_tests : Rest → ℕ → List ℕ → List Test
change_tests r o sent = test 9 (no_wel r o) ∷ test 10 (closed r o sent) ∷ test 11 (locked_target r o sent) ∷ []
