-- The fold's clause says that it is additions that wrap. Assumes nothing.
use Rattle.std.proofs.Common.{◌≡◌, ◌+◌, ◌-◌, ◌%◌, ◌∙◌, take, drop, rules}
use Rattle.std.specs.List.{fold}
use Rattle.image_records.proofs.Laws.{sum_wraps}
use Rattle.image_records.proofs.sum.Goals as goal

pub returns : goal.returns
returns c =
    let a = c.args in
    let e : c.fold.result ≡ fold (λ s b. (s + b) % 65536) 0 (take (a.to - a.from) (drop a.from a.l.now)) = search rules in
    e ∙ sum_wraps _
