-- The store's promise, with the parts lent. Assumes nothing.
use mathlib.Core.Path.{sym, ◌∙◌}
use lib.ListN.{length}
use Rattle.std.proofs.Math.Nat.{min_comm}
use lib.Seq.{length-take-le}
use Rattle.calls.proofs.Desks.{stored_is}
use native.Mathlib.Omega.{arith}
use Rattle.calls.proofs.lent.stored.Goals as goal

pub slice_bounds-store-end-2 : goal.slice_bounds-store-end-2
slice_bounds-store-end-2 c = sym (length-take-le _ _ (omega (arith, c.min-a.ensures)))

pub slice_bounds-store-end-4 : goal.slice_bounds-store-end-4
slice_bounds-store-end-4 c = sym (length-take-le _ _ (omega (arith, c.min-s.ensures)))

pub slice_bounds-store-end-6 : goal.slice_bounds-store-end-6
slice_bounds-store-end-6 c = sym (length-take-le _ _ (omega (arith, c.min-n.ensures)))

pub slice_bounds-store-end-8 : goal.slice_bounds-store-end-8
slice_bounds-store-end-8 c = sym (length-take-le _ _ (omega (arith, c.min-m.ensures)))

pub returns : goal.returns
returns c = let a = c.args in
    stored_is a.b a.array.now a.security.now a.reply.now a.marks.now c.min-a.ensures c.min-s.ensures (c.min-n.ensures ∙ min_comm (length a.reply.now) 65536) (c.min-m.ensures ∙ min_comm (length a.marks.now) 65536) c.opened.ensures _ _ _ _ _ _ _ _ _ c.store.ensures
