-- RG, SI, and the pages behind them. Assumes nothing.
use Rattle.std.proofs.Common.{◌++◌, take, ap, ◌∙◌}
use lib.Seq.{paste}
use Rattle.image.specs.Form.{record_of, page_record, joined}
use Rattle.image_writing.proofs.Puts.{front}
use Rattle.image_writing.proofs.put_file.Goals as goal

pub returns : goal.returns
returns c = let a = c.args in
    let e = c.put_security.ensures ∙ ap (λ z. paste z 18 (record_of "SI" a.security.now) 2052) c.put_registers.ensures in
    c.put_pages.ensures
    ∙ ap (λ z. take 2070 z ++ joined (page_record a.array.now) 8192) e
    ∙ (λ i. front a.file.now a.r a.security.now c.requires.0 c.requires.1.1 i ++ joined (page_record a.array.now) 8192)
