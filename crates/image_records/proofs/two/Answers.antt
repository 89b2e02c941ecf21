-- Assumes nothing.
use Rattle.std.proofs.Common.{rules, ◌≡◌, ◌+◌, ◌*◌, ◌∙◌, get_or}
use Rattle.image_records.proofs.Laws.{number_at}
use Rattle.image_records.proofs.two.Goals as goal

pub returns-clause-value : goal.returns-clause-value
returns-clause-value c =
    let e : c.from_be_bytes.result ≡ get_or c.args.l.now c.args.at 0 * 256 + get_or c.args.l.now (c.args.at + 1) 0 = search rules in
    c.from.ensures ∙ e ∙ number_at c.args.l.now c.args.at c.requires
