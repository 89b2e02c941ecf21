use Prim.Native.Nat.{◌+◌, ◌*◌}
use mathlib.Core.Path.{◌∙◌}
use native.Mathlib.Omega.{arith}
use Rattle.image_reading.proofs.Found.{six_two}
use Rattle.image_reading.proofs.faults.six.Goals as goal

pub returns : goal.returns
returns c = let high = c.two-high.ensures in
    let middle = c.two-middle.ensures in
    let low = c.two-low.ensures in
    let a = high.small in
    let d = middle.small in
    let e = low.small in
    record { value = (λ i. (high.value i * 0x1_0000 + middle.value i) * 0x1_0000 + low.value i) ∙ six_two c.args.l.now c.args.at c.requires; small = omega arith }
