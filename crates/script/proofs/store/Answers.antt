-- Those places filled, or none. Assumes nothing.
use mathlib.Core.Path.{◌≡◌}
use Prim.Native.Nat.{ℕ, ◌-◌}
use lib.ListN.{length, take, drop}
use Rattle.std.proofs.Common.{length-take, length-drop}
use native.Mathlib.Omega.{arith}
use Rattle.script.specs.Lines.{stored}
use Rattle.script.proofs.Filled.{filled_is, none_filled}
use Rattle.script.proofs.store.Goals as goal

pub returns-then-from-end : goal.returns-then-from-end
unfolding stored
returns-then-from-end c = let a = c.args in
    let end = c.min-end.result in
    let z : length (take (end - a.from) (drop a.from a.a.now)) ≡ end - a.from = omega (arith, length-take {A = ℕ}, length-drop {A = ℕ}) in
    rw (c.fill.ensures.after (λ y e. e), z, ← c.min-end.ensures) (filled_is (end - a.from) a.a.now a.from a.v (omega arith))

pub returns-else-from-end : goal.returns-else-from-end
unfolding stored
returns-else-from-end c = rw (← c.min-end.ensures) (none_filled c.args.a.now c.min-end.result c.args.from c.args.v c.if-from-end.false)
