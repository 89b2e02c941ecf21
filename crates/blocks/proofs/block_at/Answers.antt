-- Five cases by the number, each with its row of the table. Assumes nothing.
use native.Mathlib.Omega.{arith}
use Rattle.blocks.proofs.Shape.{row_top, row_bottom, row_high, row_low, row_wide}
use Rattle.blocks.proofs.block_at.Goals as goal

pub returns-then-n-lt4 : goal.returns-then-n-lt4
returns-then-n-lt4 c = row_top c.args.n c.requires (omega arith)

pub returns-then-n-lt8 : goal.returns-then-n-lt8
returns-then-n-lt8 c = row_bottom c.args.n c.requires (omega arith) (omega arith)

pub returns-then-n-lt9 : goal.returns-then-n-lt9
returns-then-n-lt9 c = row_high c.args.n c.requires (omega arith) (omega arith)

pub returns-then-n-lt10 : goal.returns-then-n-lt10
returns-then-n-lt10 c = row_low c.args.n c.requires (omega arith) (omega arith)

pub returns : goal.returns
returns c = row_wide c.args.n c.requires (omega arith)
