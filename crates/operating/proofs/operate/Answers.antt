-- The calls in a row are the operation. Assumes nothing.
use mathlib.Core.Path.{ap, ◌∙◌}
use Rattle.rules.specs.declared.Circumstances.{Circumstances}
use Rattle.rules.specs.Promises.{bench_of, carried_of, state_of, frame_of}
use Rattle.operating.specs.Operations.{operated}
use Rattle.operating.proofs.Laws.{operates}
use Rattle.operating.proofs.operate.Goals as goal

pub returns : goal.returns
returns c =
    let a = c.args in
    record {
      outcome = operates a.b c.show.new.reply
          c.opcode_of-op.ensures c.is_busy.ensures c.due-ends.ensures c.settled-c.ensures c.frame-after.ensures
          c.is_ok.ensures.value c.show.ensures c.is_busy-2.ensures c.reads_after.ensures
          ∙ ap (λ (x : Circumstances). operated a.b (state_of (bench_of a.b.chip a.array.now a.security.now)) (frame_of (carried_of a.sent.now a.reply.now a.marks.now x))) c.untorn-x.ensures;
    }
