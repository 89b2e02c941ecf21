-- The Security ID, then mark and sum around it. Assumes nothing.
use Rattle.std.proofs.Common.{◌≡◌, ◌++◌, refl, ap, ◌∙◌, arith, take_all}
use lib.Seq.{paste}
use Rattle.rules.specs.Texts.{ascii}
use Rattle.image.specs.Form.{high_first, sum}
use Rattle.image.specs.Files.{part, body_in}
use Rattle.image_records.proofs.Laws.{paste_patched}
use Rattle.image_writing.proofs.Puts.{record_put}
use Rattle.image_writing.proofs.put_security.Goals as goal

mark : high_first 2 0x5349 ≡ ascii "SI"
unfolding high_first
mark = refl

pub returns : goal.returns
returns c = let l = c.args.file.now in
    let id = c.args.security.now in
    let size = c.requires.1 in
    let whole : part id 0 2048 ≡ id = take_all 2048 id (omega arith) in
    let body : c.copy.new.s ≡ paste l 20 id 2048 = paste_patched _ l id 20 2048 0 (omega arith) (omega arith) c.copy.ensures ∙ ap (λ z. paste l 20 z 2048) whole in
    c.seal.ensures
    ∙ ap (λ z. paste z 18 (high_first 2 0x5349 ++ body_in z 18 2048 ++ high_first 2 (sum (body_in z 18 2048))) 2052) body
    ∙ record_put "SI" 0x5349 l id 18 2048 mark size (omega arith)
