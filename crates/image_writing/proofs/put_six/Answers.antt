-- Two bytes three times. Assumes nothing.
use Rattle.std.proofs.Common.{◌+◌, ◌/◌, ap, ◌∙◌}
use lib.Seq.{paste}
use Rattle.image.specs.Form.{high_first}
use Rattle.image_writing.proofs.Puts.{put_six}
use Rattle.image_writing.proofs.put_six.Goals as goal

pub returns : goal.returns
returns c = let a = c.args in
    c.put_two-3.ensures
    ∙ ap (λ z. paste z (a.at + 4) (high_first 2 a.x) 2)
    (c.put_two-2.ensures ∙ ap (λ z. paste z (a.at + 2) (high_first 2 (a.x / 0x1_0000)) 2) c.put_two.ensures)
    ∙ put_six a.file.now a.at a.x c.requires
