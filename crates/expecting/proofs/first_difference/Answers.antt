use Rattle.std.proofs.lemmas.Iterator.{first_from_Range}
use Rattle.std.proofs.Common.{rules, ◌≡◌, true, false}
use Rattle.expecting.specs.Expectations.{differs}
use Rattle.expecting.proofs.Firsts.{first_found}
use Rattle.expecting.proofs.first_difference.Goals as goal

pub returns : goal.returns
returns c = let a = c.args in
    let test = differs a.reply.now.bytes.now a.reply.now.marks.now a.expected.now.bytes.now a.expected.now.marks.now in
    rw c.unwrap_or.ensures (first_found test a.n _ (first_from_Range _ _ _ _ (λ i. test i ≡ true) (λ i. test i ≡ false) c.find.ensures.ran (λ x q k. search rules) (λ x q k. search rules)))
