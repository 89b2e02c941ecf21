-- Each byte of the piece in turn. Assumes nothing.
use Rattle.std.proofs.Common.{◌≡◌, ◌∙◌, ap, rules}
use Rattle.std.specs.List.{fold}
use Rattle.byte_text.proofs.Laws.{plain_step, plain_is}
use Rattle.byte_text.proofs.plain_bytes.Goals as goal

pub returns : goal.returns
returns c = let a = c.args in
    let e : c.fold.result ≡ fold plain_step a.r c.piece.result.now = search rules in
    plain_is _ _ _ _ _ (e ∙ ap (fold plain_step a.r) c.piece.ensures)
