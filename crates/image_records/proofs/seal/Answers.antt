-- The mark in front, then the sum of the body, which the mark did not change. Assumes nothing.
use Rattle.std.proofs.Common.{◌+◌, ◌-◌, ap, ◌∙◌}
use lib.Seq.{paste}
use Rattle.image.specs.Form.{high_first, sum}
use Rattle.image.specs.Files.{part}
use Rattle.image_records.proofs.Laws.{sealed}
use Rattle.image_records.proofs.seal.Goals as goal

pub returns : goal.returns
returns c =
    let a = c.args in
    let e = c.put_two.ensures in
    c.put_two-2.ensures
    ∙ ap (λ r. paste r (a.at + 2 + a.n) (high_first 2 c.from.result) 2) e
    ∙ sealed a.l.now a.at a.n a.mark c.from.result c.requires
    (c.from.ensures ∙ c.sum-s.ensures ∙ ap (λ r. sum (part r (a.at + 2) (a.at + 2 + a.n - (a.at + 2)))) e)
