-- What the search finds, or 256. Assumes nothing.
use Rattle.std.proofs.Common.{ℕ, ◌≡◌, rules}
use Rattle.std.proofs.lemmas.Iterator.{first_from_Range}
use Rattle.rows.specs.Questions.{lock_state}
use Rattle.rows.proofs.Runs.{run_found}
use Rattle.rows.proofs.questions.run_end.Goals as goal

pub returns : goal.returns
returns c =
    let a = c.args in
    let at = λ (i : ℕ). lock_state i a.protection a.permanent in
    let f = run_found a.s a.protection a.permanent a.g _ c.requires
    (first_from_Range _ _ _ _ (λ i. at i ≡ a.s → ⊥) (λ i. at i ≡ a.s) c.find.ensures.ran (λ x q k. search rules) (λ x q k. search rules)) in
    rw c.unwrap_or.ensures (record { value = f.0; inside = f.1; after = f.2 })
