-- The first bytes are set, and byte k, if there is one, gains the bits of m. Assumes nothing.
use mathlib.Core.Path.{refl}
use mathlib.Core.List.{[]}
use Rattle.rules.specs.declared.Work.{Work}
use Rattle.rules.specs.Works.{tear_of}
use Rattle.memory.proofs.Finishes.{patched_whole, patched_torn}
use Rattle.memory.proofs.erase.Goals as goal

pub returns-then-whole-n : goal.returns-then-whole-n
returns-then-whole-n c = let b = c in let s = b in
    patched_torn Work.EraseArray [] s.args.s.now s.args.from s.args.n (tear_of s.args.k s.args.m) _ _ _ b.min-whole.ensures c.if-whole-n.true s.requires b.set_all.ensures refl

pub returns-else-whole-n : goal.returns-else-whole-n
returns-else-whole-n c = let b = c in let s = b in
    patched_whole Work.EraseArray [] s.args.s.now s.args.from s.args.n (tear_of s.args.k s.args.m) _ _ b.min-whole.ensures c.if-whole-n.false b.set_all.ensures
