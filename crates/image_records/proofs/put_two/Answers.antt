-- Assumes nothing.
use Rattle.std.proofs.Common.{◌+◌, ◌-◌, ap, ◌∙◌, arith}
use borrow.Rule.Slice.PartMut.{put_mid}
use Rattle.image_records.proofs.Laws.{put_two}
use Rattle.image_records.proofs.put_two.Goals as goal

pub returns : goal.returns
returns c = let a = c.args in
    ap (put_mid a.at (a.at + 2 - a.at) a.l.now) (c.copy_from_slice.ensures.after ∙ c.to_be_bytes.ensures) ∙ put_two a.l.now a.at a.x (a.at + 2 - a.at) (omega arith)
