-- No second outcome: whatever meets the guarantee of an exported function at the same input is the same number and the same lent bytes.
-- Assumes nothing.
use Prim.Native.Nat.{ℕ}
use mathlib.Core.Path.{sym, ◌∙◌}
use mathlib.Core.List.{List, []}
use Rattle.rules.proofs.Outcomes.{OneOutcome}
use Rattle.image.specs.Promises.{written_of}
use Rattle.bench.specs.Boundary.{came_of}
use Rattle.bench.specs.Images.{image_read_of}
use Rattle.bench.proofs.Outcomes.{came_one}
use Rattle.bench.proofs.fulkibono_new.Reads as new
use Rattle.bench.proofs.fulkibono_new_old.Reads as new-old
use Rattle.bench.proofs.fulkibono_frame.Reads as frame
use Rattle.bench.proofs.fulkibono_completion.Reads as completion
use Rattle.bench.proofs.fulkibono_power_cut.Reads as power-cut
use Rattle.bench.proofs.fulkibono_image_write.Reads as image-write
use Rattle.bench.proofs.fulkibono_image_read.Reads as image-read
use Rattle.bench.proofs.fulkibono_meaning.Reads as meaning

pub new_one : OneOutcome {S = ℕ × List ℕ} new.Post (λ r x. (r, x.0.now))
new_one κ a x y r r' p q = p.outcome ∙ sym q.outcome

pub new_old_one : OneOutcome {S = ℕ × List ℕ} new-old.Post (λ r x. (r, x.0.now))
new_old_one κ a x y r r' p q = p.outcome ∙ sym q.outcome

pub frame_one : OneOutcome frame.Post (λ r x. came_of r x.0.now x.1.0.now x.1.1.0.now x.1.1.1.1.0.now x.1.1.1.1.1.0.now)
frame_one κ a x y r r' p q = came_one _ _ (p.outcome ∙ sym q.outcome)

pub completion_one : OneOutcome completion.Post (λ r x. came_of r x.0.now x.1.0.now x.1.1.0.now [] [])
completion_one κ a x y r r' p q = came_one _ _ (p.outcome ∙ sym q.outcome)

pub power_cut_one : OneOutcome power-cut.Post (λ r x. came_of r x.0.now x.1.0.now x.1.1.0.now [] [])
power_cut_one κ a x y r r' p q = came_one _ _ (p.outcome ∙ sym q.outcome)

pub image_write_one : OneOutcome image-write.Post (λ r x. written_of r x.1.1.1.0.now)
image_write_one κ a x y r r' p q = p.outcome ∙ sym q.outcome

pub image_read_one : OneOutcome image-read.Post (λ r x. image_read_of r x.1.0.now x.1.1.0.now x.1.1.1.0.now)
image_read_one κ a x y r r' p q = p.outcome ∙ sym q.outcome

pub meaning_one : OneOutcome {S = ℕ × List ℕ} meaning.Post (λ r x. (r, x.1.0.now))
meaning_one κ a x y r r' p q = λ i. ((p.size ∙ sym q.size) i, (p.text ∙ sym q.text) i)
