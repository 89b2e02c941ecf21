-- The chip's promise, with the parts lent and the reply filled before. Assumes nothing.
use Prim.Native.Nat.{ℕ, min}
use mathlib.Core.Path.{sym, ap, ◌∙◌}
use lib.ListN.{length, take, replicate}
use mathlib.Core.Path.{◌≡◌}
use Rattle.lending.proofs.Parts.{filled_part}
use lib.Seq.{length-take-le}
use Rattle.lending.proofs.Happenings.{framed}
use native.Mathlib.Omega.{arith}
use Rattle.lending.proofs.sent.Goals as goal

pub slice_bounds-frame-end-2 : goal.slice_bounds-frame-end-2
slice_bounds-frame-end-2 c = sym (length-take-le _ _ (omega (arith, c.min-a.ensures)))

pub slice_bounds-frame-end-4 : goal.slice_bounds-frame-end-4
slice_bounds-frame-end-4 c = sym (length-take-le _ _ (omega (arith, c.min-s.ensures)))

pub slice_bounds-frame-end-5 : goal.slice_bounds-frame-end-5
slice_bounds-frame-end-5 c = sym (length-take-le _ _ (omega (arith, c.min-n.ensures)))

pub slice_bounds-frame-end-7 : goal.slice_bounds-frame-end-7
slice_bounds-frame-end-7 c = sym (length-take-le _ _ (omega (arith, c.min-r.ensures)))

pub slice_bounds-frame-end-9 : goal.slice_bounds-frame-end-9
slice_bounds-frame-end-9 c = sym (length-take-le _ _ (omega (arith, c.min-m.ensures)))

pub returns : goal.returns
returns c = let a = c.args in
    let f = c.frame in
    let r = c.min-r.result in
    let m = c.min-m.result in
    let rs : length (take r a.reply.now) ≡ r = length-take-le r a.reply.now (omega (arith, c.min-r.ensures)) in
    let ms : length (take m a.marks.now) ≡ m = length-take-le m a.marks.now (omega (arith, c.min-m.ensures)) in
    framed a.b a.array.now a.security.now _ _ c.min-a.ensures c.min-s.ensures a.l a.frame.now a.reply.now a.marks.now _ _ _ _ _ _ c.tear_of-tear.ensures
    c.min-n.ensures (c.min-r.ensures ∙ ap (λ (k : ℕ). min k (length a.reply.now)) c.wanted.ensures) (c.min-m.ensures ∙ ap (λ (k : ℕ). min k (length a.marks.now)) c.marks_given.ensures)
    (filled_part a.reply.now c.fill.new.self r 0x5A (omega (arith, c.min-r.ensures)) (c.fill.ensures.after (λ y e. e) ∙ ap (λ (k : ℕ). replicate k 0x5A) rs))
    (filled_part a.marks.now c.fill-2.new.self m 0x07 (omega (arith, c.min-m.ensures)) (c.fill-2.ensures.after (λ y e. e) ∙ ap (λ (k : ℕ). replicate k 0x07) ms))
    _ _ _ _ _ f.auto.array f.auto.security f.auto.reply f.auto.marks f.ensures
