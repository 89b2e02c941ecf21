-- Parts of the slices, as many as there are. Assumes nothing.
use mathlib.Core.Path.{◌∙◌, ap}
use Prim.Native.Nat.{ℕ, min}
use Rattle.serving.proofs.Operations.{operation_of}
use Rattle.serving.proofs.operated.Goals as goal

pub returns : goal.returns
returns c = let a = c.args in
    let f = c.answer_operation-bench in
    operation_of a.h a.b a.array.now a.security.now a.sent.now a.answer.now a.marks.now _ _ _ _ _ c.length_of.ensures
    (c.min-receive.ensures ∙ ap (λ (x : ℕ). min x 65536) c.length_of-2.ensures) c.min-send.ensures c.min-n.ensures c.min-m.ensures _ _ _ _ _ f.auto.answer f.auto.marks f.ensures
