-- Five stretches from the bottom up, each with the number that is counted in it. Assumes nothing.
use native.Mathlib.Omega.{arith}
use Rattle.blocks.proofs.Shape.{at_bottom, at_low, at_middle, at_high, at_top}
use Rattle.blocks.proofs.block_of.Goals as goal

pub overflow_sub-result : goal.overflow_sub-result
overflow_sub-result c = (at_bottom c.args.a _ _ c.block_at-bottom.ensures c.block_at-low.ensures (omega arith)).from

pub nonzero_div-result : goal.nonzero_div-result
nonzero_div-result c = (at_bottom c.args.a _ _ c.block_at-bottom.ensures c.block_at-low.ensures (omega arith)).some

pub overflow_sub-result-then-a-low : goal.overflow_sub-result-then-a-low
overflow_sub-result-then-a-low c = (at_bottom c.args.a _ _ c.block_at-bottom.ensures c.block_at-low.ensures (omega arith)).most

pub returns-then-a-low : goal.returns-then-a-low
returns-then-a-low c = (at_bottom c.args.a _ _ c.block_at-bottom.ensures c.block_at-low.ensures (omega arith)).is

pub nonzero_div-result-then-a-high : goal.nonzero_div-result-then-a-high
nonzero_div-result-then-a-high c = (at_middle c.args.a _ _ c.block_at-wide.ensures c.block_at-high.ensures (omega arith) (omega arith)).some

pub overflow_sub-result-then-a-high-2 : goal.overflow_sub-result-then-a-high-2
overflow_sub-result-then-a-high-2 c = (at_middle c.args.a _ _ c.block_at-wide.ensures c.block_at-high.ensures (omega arith) (omega arith)).most

pub returns-then-a-high : goal.returns-then-a-high
returns-then-a-high c = (at_middle c.args.a _ _ c.block_at-wide.ensures c.block_at-high.ensures (omega arith) (omega arith)).is

pub nonzero_div-result-2 : goal.nonzero_div-result-2
nonzero_div-result-2 c = (at_top c.args.a _ c.block_at-top.ensures (omega arith) c.requires).some

pub overflow_sub-result-3 : goal.overflow_sub-result-3
overflow_sub-result-3 c = (at_top c.args.a _ c.block_at-top.ensures (omega arith) c.requires).most

pub returns : goal.returns
returns c = (at_top c.args.a _ c.block_at-top.ensures (omega arith) c.requires).is

pub returns-then-a-wide : goal.returns-then-a-wide
returns-then-a-wide c =
    let t = c in
    at_low t.args.a _ _ t.block_at-low.ensures c.block_at-wide.ensures (omega arith) (omega arith)

pub returns-then-a-top : goal.returns-then-a-top
returns-then-a-top c =
    let t = c in
    at_high t.args.a _ _ t.block_at-high.ensures c.block_at-top.ensures (omega arith) (omega arith)
