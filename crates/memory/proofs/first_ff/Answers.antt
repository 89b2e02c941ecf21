-- The fold's clause says that it is the AND of those bytes. Assumes nothing.
use mathlib.Core.Path.{◌≡◌}
use lib.ListN.{take}
use lib.Bits.{bit_and}
use Rattle.std.specs.List.{fold}
use Rattle.std.proofs.Common.{rules, arith}
use Rattle.memory.proofs.Buffers.{ff_all}
use Rattle.memory.proofs.first_ff.Goals as goal

pub returns : goal.returns
returns c =
    let e : c.fold.result ≡ fold bit_and 255 (take c.args.n c.args.page.now) = search rules in
    rw e (ff_all c.args.page.now (λ i. omega (arith, c.type_inv.page i)) c.args.n c.requires).1
