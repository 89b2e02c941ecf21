-- What the search finds, or 0. Assumes nothing.
use Rattle.std.proofs.Common.{ℕ, ◌≡◌, true, false, rules}
use Rattle.std.proofs.lemmas.Iterator.{first_from_Range}
use Rattle.rules.specs.Words.{bit}
use Rattle.rules.specs.Blocks.{block_at}
use Rattle.locked.proofs.First.{locked_found}
use Rattle.locked.proofs.first_locked.Goals as goal

pub returns : goal.returns
returns c =
    let test = λ (i : ℕ). bit (block_at i).write c.args.p in
    let f = locked_found c.args.p _ (first_from_Range _ _ _ _ (λ i. test i ≡ true) (λ i. test i ≡ false) c.find.ensures.ran (λ x q k. search rules) (λ x q k. search rules)) in
    rw c.unwrap_or.ensures (record { value = f.0; inside = f.1 })
