-- The code's table is the list of the rules, computed; past its end both give 0. Assumes nothing.
use Rattle.std.proofs.Common.{sym, arith}
use lib.ListN.{get_or-eq_default}
use Rattle.layout.specs.Numbers.{numbers}
use Rattle.layout.proofs.numbers.number.Goals as goal

pub returns : goal.returns
returns c = sym (get_or-eq_default numbers 0 {n = c.args.i} (omega arith))
