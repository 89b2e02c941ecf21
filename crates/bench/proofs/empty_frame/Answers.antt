use mathlib.Core.Path.{◌≡◌, sym, ◌∙◌}
use native.Mathlib.Omega.{arith}
use lib.Seq.{length-take-le}
use Rattle.bench.proofs.Calls.{event_left}
use Rattle.bench.proofs.Judged.{framed}
use Rattle.bench.proofs.empty_frame.Goals as goal

pub slice_bounds-event-end-2 : goal.slice_bounds-event-end-2
slice_bounds-event-end-2 c = let e = c.min-n.ensures in
    sym (length-take-le _ c.args.file.now (let h = c.requires in omega arith))

pub returns : goal.returns
returns c = let a = c.args in
    let h = c.requires in
    let e : c.min-n.result ≡ 2097152 = c.min-n.ensures ∙ omega arith in
    let l = length-take-le 2097152 a.file.now h in
    let t = framed a.coded.now a.file.now a.id.now _ c.min-n.result c.event.new.bytes c.event.new.array c.event.new.security e h c.event.auto.array
    (event_left _ _ _ _ _ _ _ _ c.event.auto.reply c.event.auto.marks c.event.ensures) in
    record { number = t.0; behind = t.1 }
