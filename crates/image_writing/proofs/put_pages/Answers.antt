-- One page more behind those that are put. Assumes nothing.
use Rattle.std.proofs.Common.{◌≡◌, ◌+◌, length, take, sym, ap, ◌∙◌, arith, take_all}
use Rattle.image.specs.Form.{page_record}
use Rattle.image.specs.Files.{page_place}
use Rattle.image.proofs.Laws.{length_pages}
use Rattle.image_records.proofs.Laws.{pieces_none, pieces_more}
use Rattle.image_writing.proofs.put_pages.Goals as goal

pub loop-n-init : goal.loop-n-init
loop-n-init c = pieces_none c.args.file.now (page_record c.args.array.now) 2070 262

pub loop-n-preserved : goal.loop-n-preserved
loop-n-preserved c = let l = c.loop-n in
    let a = c.args in
    let long : length (page_record a.array.now l.n) ≡ 262 = length_pages a.array.now c.requires.1 l.n (omega arith) in
    ap (take (page_place (l.n + 1))) c.put_page.ensures ∙ pieces_more l.file a.file.now (page_record a.array.now) 2070 262 l.n (omega arith) long l.invariant

pub returns : goal.returns
returns c = let l = c.loop-n in
    let e : l.n ≡ 8192 = omega arith in
    sym (take_all 2148374 l.file (omega arith)) ∙ (rw e at l.invariant)
