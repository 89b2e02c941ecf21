-- One page more behind those that are stored. Assumes nothing.
use Rattle.std.proofs.Common.{◌≡◌, ◌+◌, ◌*◌, length, take, sym, ap, ◌∙◌, arith, take_all}
use lib.Seq.{paste}
use Rattle.image.specs.Files.{page_in, page_place, array_in}
use Rattle.image.proofs.Parts.{length_part}
use Rattle.image_records.proofs.Laws.{paste_patched, pieces_none, pieces_more}
use Rattle.image_reading.proofs.fill_array.Goals as goal

pub loop-n-init : goal.loop-n-init
loop-n-init c = pieces_none c.args.array.now (page_in c.args.file.now) 0 256

pub loop-n-preserved : goal.loop-n-preserved
loop-n-preserved c = let l = c.loop-n in
    let a = c.args in
    let z : 0 + l.n * 256 ≡ l.n * 256 = omega arith in
    let long : length (page_in a.file.now l.n) ≡ 256 = length_part a.file.now (page_place l.n + 4) 256 (omega arith) in
    let e : c.copy.new.s ≡ paste l.array (0 + l.n * 256) (page_in a.file.now l.n) 256 =
    paste_patched _ l.array a.file.now (l.n * 256) 256 (page_place l.n + 4) (omega arith) (omega arith) c.copy.ensures
    ∙ ap (λ k. paste l.array k (page_in a.file.now l.n) 256) (sym z) in
    ap (take (0 + (l.n + 1) * 256)) e ∙ pieces_more l.array a.array.now (page_in a.file.now) 0 256 l.n (omega arith) long l.invariant

pub returns : goal.returns
unfolding array_in
returns c = let l = c.loop-n in
    let e : l.n ≡ 8192 = omega arith in
    sym (take_all 2097152 l.array (omega arith)) ∙ (rw e at l.invariant)
