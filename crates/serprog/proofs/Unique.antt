-- No second outcome: whatever meets the guarantee of a public function of this crate at the same input is the same result and the same lent memory.
-- An equation; a slice is the only one with its memory. Assumes nothing.
use Prim.Native.Nat.{ℕ}
use mathlib.Core.Path.{◌≡◌}
use mathlib.Core.Bool.{Bool}
use mathlib.Core.List.{List}
use denote.MutBor.{MutBor}
use Rattle.rules.proofs.Promises.{one, lent_one}
use Rattle.rules.proofs.Outcomes.{OneResult}
use Rattle.serprog.proofs.commands.shape_of.Reads as shape_of
use Rattle.serprog.proofs.commands.answer_to.Reads as answer-to
use Rattle.serprog.proofs.commands.length_of.Reads as length-of
use Rattle.serprog.proofs.commands.lengths_fit.Reads as lengths-fit
use Rattle.serprog.proofs.showing.show.Reads as show

pub shape_of_one : OneResult shape_of.Post
shape_of_one κ a x y r r' p q = one p q

pub answer_to_one : OneResult answer-to.Post
answer_to_one κ a x y r r' p q = one p q

pub length_of_one : OneResult length-of.Post
length_of_one κ a x y r r' p q = one p q

pub lengths_fit_one : OneResult lengths-fit.Post
lengths_fit_one κ a x y r r' p q = one p q

pub show_one : (κ : List ℕ × Unit {0}) (a x y : Bool × (Bool × (ℕ × (MutBor (List ℕ) × Unit {0})))) → show.Post κ a tt x → show.Post κ a tt y
    → x.1.1.1.0.now ≡ y.1.1.1.0.now
show_one κ a x y p q = lent_one _ _ (one p q)
