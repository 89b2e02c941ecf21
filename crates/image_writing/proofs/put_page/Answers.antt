-- Its number and its bytes, one behind the other, then mark and sum around them. Assumes nothing.
use Rattle.std.proofs.Common.{◌≡◌, ◌+◌, ◌*◌, ◌++◌, refl, sym, ap, ◌∙◌, arith}
use lib.Seq.{paste, length-paste}
use Rattle.rules.specs.Texts.{ascii}
use Rattle.image.specs.Form.{high_first, sum, page_of}
use Rattle.image.specs.Files.{body_in, page_place}
use Rattle.image.proofs.Bytes.{length_high}
use Rattle.image.proofs.Laws.{length_page, length_body}
use Rattle.image_records.proofs.Laws.{paste_patched}
use Rattle.image_writing.proofs.Puts.{paste_next, record_put}
use Rattle.image_writing.proofs.put_page.Goals as goal

mark : high_first 2 0x5047 ≡ ascii "PG"
unfolding high_first
mark = refl

pub returns : goal.returns
returns c = let l = c.args.file.now in
    let array = c.args.array.now in
    let n = c.args.n in
    let at = page_place n in
    let below = c.requires.0 in
    let size = c.requires.1.0 in
    let full = c.requires.1.1 in
    let h = length_high 2 n in
    let j : at + 2 + 2 ≡ at + 4 = omega arith in
    let long = length-paste l (at + 2) (high_first 2 n) 2 (omega arith) (omega arith) in
    let copied : c.copy.new.s ≡ paste c.put_two.new.l (at + 4) (page_of array n) 256 =
    paste_patched _ _ array (at + 4) 256 (n * 256) (rw c.put_two.ensures (omega arith)) (omega arith) c.copy.ensures in
    let body : c.copy.new.s ≡ paste l (at + 2) (high_first 2 n ++ page_of array n) 258 =
    copied ∙ ap (λ z. paste z (at + 4) (page_of array n) 256) c.put_two.ensures ∙ (λ i. paste (paste l (at + 2) (high_first 2 n) 2) (sym j i) (page_of array n) 256)
    ∙ paste_next l (high_first 2 n) (page_of array n) (at + 2) 2 256 h (length_page array full n below) (omega arith) in
    c.seal.ensures
    ∙ ap (λ z. paste z at (high_first 2 0x5047 ++ body_in z at 258 ++ high_first 2 (sum (body_in z at 258))) 262) body
    ∙ record_put "PG" 0x5047 l (high_first 2 n ++ page_of array n) at 258 mark (length_body array full n below) (omega arith)
