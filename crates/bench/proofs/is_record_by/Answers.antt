use mathlib.Core.Path.{◌≡◌, refl}
use native.Mathlib.Omega.{arith}
use lib.ListN.{length}
use Rattle.bench.proofs.Judged.{of_other_size, copied, copy_judged}
use borrow.Author.Rules.{rules}
use Rattle.bench.proofs.is_record_by.Goals as goal

pub returns-then-bytes-ne320 : goal.returns-then-bytes-ne320
returns-then-bytes-ne320 c = record { value = of_other_size c.args.bytes.now c.if-bytes-ne320.true; kept = refl }

pub returns : goal.returns
returns c = let a = c.args in
    let size = c.if-bytes-ne320.false in
    let long = c.requires in
    let e : length a.coded.now ≡ 320 = search rules in
    let i : length a.id.now ≡ 2048 = search rules in
    let t = copy_judged a.bytes.now c.copy.new.s a.id.now c.empty_frame.new.coded c.empty_frame.new.id a.file.now c.empty_frame.new.file c.empty_frame.result i (omega arith)
    (copied c.copy.new.s a.coded.now a.bytes.now 320 e size c.copy.ensures) c.empty_frame.ensures.number c.empty_frame.ensures.behind in
    record { value = t.0; kept = t.1 }
