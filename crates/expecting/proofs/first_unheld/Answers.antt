use Rattle.std.proofs.lemmas.Iterator.{first_from_Range}
use Rattle.std.proofs.Common.{rules, arith, ℕ, ◌≡◌, true, false}
use borrow.Author.Tests.{eq-eqb}
use Rattle.expecting.specs.Expectations.{unheld}
use Rattle.expecting.proofs.Firsts.{first_found, compared_from}
use Rattle.expecting.proofs.first_unheld.Goals as goal

pub returns : goal.returns
returns c = let a = c.args in
    let test = unheld a.memory.now a.from a.expected.now a.known.now a.count in
    let here = λ (i : ℕ). compared_from a.memory.now a.from a.expected.now a.known.now a.count i c.if-count-eq0.false in
    rw c.unwrap_or.ensures
    (first_found test a.n _
    (first_from_Range _ _ _ _ (λ i. test i ≡ true) (λ i. test i ≡ false) c.find.ensures.ran (λ x q k. rw (here x) (search rules)) (λ x q k. (search rules, rw (here x) (search rules)))))

pub returns-then-count-eq0 : goal.returns-then-count-eq0
unfolding unheld
returns-then-count-eq0 c =
    record { within = omega arith; before = λ i l. rw (eq-eqb _ _ c.if-count-eq0.true); there = λ l. absurd (omega arith) }
