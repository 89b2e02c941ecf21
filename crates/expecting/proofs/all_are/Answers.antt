use Rattle.std.proofs.lemmas.Iterator.{YieldsList-from_slice}
use Rattle.std.proofs.lemmas.Iterator.Search.{all_from_yields_List}
use Rattle.std.proofs.Common.{rules, ◌∙◌}
use lib.Dec.{eqb}
use Rattle.expecting.proofs.Firsts.{every_is}
use Rattle.expecting.proofs.all_are.Goals as goal

pub returns : goal.returns
returns c = let a = c.args in
    all_from_yields_List (λ x. eqb x a.v) _ _ _ c.all.ensures.ran (YieldsList-from_slice a.s.now cc) (λ x b q k. search rules) ∙ every_is _ a.s.now
