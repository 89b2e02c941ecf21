-- Of the right sizes, all bytes. Assumes nothing.
use Rattle.std.proofs.Common.{◌≡◌, ℕ, true, ap, sym, ◌∙◌, arith, rules, length, not}
use Rattle.raw_image.specs.Raw.{whole, compared, compare_raw, differs_at}
use Rattle.raw_image.proofs.Compared.{passes, refuses, sizes, compared_next, few, few_in}
use Rattle.raw_image.proofs.compare.Goals as goal

pub returns-then-is_err : goal.returns-then-is_err
unfolding compare_raw
returns-then-is_err c = rw (refuses _ _ _ c.sized.ensures c.if-is_err.ensures.negation)

pub loop-i-init : goal.loop-i-init
unfolding compared
loop-i-init c = search rules

pub bounds-array-i : goal.bounds-array-i
bounds-array-i c = let s = sizes _ _ (passes _ _ _ c.sized.ensures c.if-is_err.ensures.negation) in omega arith

pub with_place-d-requires : goal.with_place-d-requires
with_place-d-requires c = let s = sizes _ _ (passes _ _ _ c.sized.ensures c.if-is_err.ensures.negation) in
    few_in 2097152 c.loop-i.i c.loop-i.d c.loop-i.invariant.few (omega arith)

pub loop-i-preserved : goal.loop-i-preserved
loop-i-preserved c = let l = c.loop-i in
    record {
      few = rw c.with_place-d.ensures (few l.i _ _ l.d l.invariant.few);
      is = c.with_place-d.ensures ∙ ap (differs_at l.i _ _) l.invariant.is ∙ sym (compared_next l.i c.args.file.now c.args.array.now);
    }

pub returns : goal.returns
unfolding compare_raw
returns c = let l = c.loop-i in
    let fits = passes _ _ _ c.sized.ensures c.if-is_err.ensures.negation in
    let s = sizes _ _ fits in
    let e : l.i ≡ 2097152 = omega arith in
    rw fits (l.invariant.is ∙ ap (λ (n : ℕ). compared n c.args.file.now c.args.array.now) e)
