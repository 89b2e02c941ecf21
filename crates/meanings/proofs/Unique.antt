-- No second outcome: whatever meets the guarantee of a public function of this crate at the same input is the same length and the same lent bytes.
-- Assumes nothing.
use Prim.Native.Nat.{ℕ}
use mathlib.Core.Path.{sym, ◌∙◌}
use mathlib.Core.List.{List}
use Rattle.rules.proofs.Outcomes.{OneOutcome}
use Rattle.meanings.proofs.meaning.Reads as meaning
use Rattle.meanings.proofs.put_text.Reads as put-text

pub meaning_one : OneOutcome {S = ℕ × List ℕ} meaning.Post (λ r x. (r, x.1.0.now))
meaning_one κ a x y r r' p q = λ i. ((p.size ∙ sym q.size) i, (p.text ∙ sym q.text) i)

pub put_text_one : OneOutcome {S = ℕ × List ℕ} put-text.Post (λ r x. (r, x.0.now))
put_text_one κ a x y r r' p q = λ i. ((p.0 ∙ sym q.0) i, (p.1 ∙ sym q.1) i)
