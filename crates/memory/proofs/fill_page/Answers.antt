use Prim.Native.Nat.{◌+◌}
use mathlib.Core.Path.{sym, ap, ◌∙◌}
use lib.ListN.{length-set}
use Rattle.rules.specs.Programs.{blank, fill}
use Rattle.memory.proofs.Buffers.{fill_on, fill_end, data_from}
use Rattle.memory.proofs.fill_page.Goals as goal

pub loop-i-preserved : goal.loop-i-preserved
loop-i-preserved c =
    let l = c.loop-i in
    record {
      size = length-set l.page _ _ ∙ l.invariant.size;
      is = sym (fill_on l.page _ c.args.at l.i c.loop-i-test.true) ∙ l.invariant.is;
    }

pub returns : goal.returns
returns c =
    sym (fill_end c.loop-i.page _ (c.args.at + c.loop-i.i) c.loop-i.i c.loop-i-test.false) ∙ c.loop-i.invariant.is
    ∙ ap (fill blank c.args.at) (data_from c.args.sent.now c.args.skip _ c.min.ensures)
