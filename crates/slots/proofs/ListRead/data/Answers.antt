-- The slot's bytes from 4 on. Assumes nothing.
use Prim.Native.Nat.{◌+◌, ◌-◌}
use native.Mathlib.Omega.{arith}
use mathlib.Core.Path.{◌∙◌}
use lib.ListN.{length, drop, length-drop}
use Rattle.std.proofs.lemmas.List.{get_or-drop, take_all}
use Rattle.slots.specs.Reads.{shown_of}
use Rattle.slots.proofs.Slots.{data_from}
use Rattle.slots.proofs.ListRead.data.Goals as goal

pub returns : goal.returns
returns c =
    let s = c.slot.result.now in
    take_all (length s - 4) (drop 4 s) (omega (arith, length-drop 4 s))
    ∙ (data_from (shown_of c.args.self.now) c.args.i 4 28 (drop 4 s) (omega (arith, length-drop 4 s, c.slot.ensures.size)) (λ k h. get_or-drop 4 s k 0 ∙ c.slot.ensures.bytes (4 + k) (omega arith)))
