-- Each byte of the piece in turn. Assumes nothing.
use Rattle.std.proofs.Common.{◌≡◌, rules, take, drop}
use Rattle.std.specs.List.{fold}
use Rattle.byte_text.proofs.Laws.{printed_step, printed_is}
use Rattle.byte_text.proofs.printed_bytes.Goals as goal

pub returns : goal.returns
returns c = let a = c.args in
    let e : c.fold.result ≡ fold printed_step a.r (take a.most (drop a.from a.l.now)) = search rules in
    printed_is _ _ _ _ _ e
