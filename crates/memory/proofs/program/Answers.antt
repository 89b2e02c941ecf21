-- The first bytes are cleared, and byte k, if there is one, where neither the buffer nor m has a bit. Assumes nothing.
use mathlib.Core.Path.{refl}
use Rattle.rules.specs.declared.Work.{Work}
use Rattle.rules.specs.Works.{tear_of}
use Rattle.memory.proofs.Finishes.{patched_whole, patched_torn}
use Rattle.memory.proofs.program.Goals as goal

pub returns-then-whole-lt256 : goal.returns-then-whole-lt256
returns-then-whole-lt256 c = let b = c in let s = b in
    patched_torn (Work.ProgramPage 0) s.args.page.now s.args.s.now s.args.from 256 (tear_of s.args.k s.args.m) _ _ _ b.min-whole.ensures c.if-whole-lt256.true s.requires.0 b.clear_bits.ensures refl

pub returns-else-whole-lt256 : goal.returns-else-whole-lt256
returns-else-whole-lt256 c = let b = c in let s = b in
    patched_whole (Work.ProgramPage 0) s.args.page.now s.args.s.now s.args.from 256 (tear_of s.args.k s.args.m) _ _ b.min-whole.ensures c.if-whole-lt256.false b.clear_bits.ensures
