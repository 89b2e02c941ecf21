use mathlib.Core.Path.{◌≡◌, refl, sym, ◌∙◌}
use borrow.Author.Tests.{le-leb, lt-leb}
use Rattle.stations.proofs.Next.{first_hit, first_miss, first_end}
use Rattle.census.proofs.Numbers.{count_hit, count_miss}
use Rattle.census.specs.Census.{count_below, cut_after}
use native.Mathlib.Omega.{arith}
use Rattle.census.proofs.cut_after.Goals as goal
use Rattle.census.proofs.cut_after.Goals.{then-is_found, else-is_found}

pub loop-i-init : goal.loop-i-init
unfolding cut_after count_below
loop-i-init c = (omega arith, refl, refl)

pub returns-then-k-n : goal.returns-then-k-n
returns-then-k-n c = let l = c.loop-i in
    sym (l.invariant.2 ∙ first_hit _ 2048 l.i (omega arith) (le-leb _ _ (rw l.invariant.1 at c.if-k-n.true)))

pub loop-i-preserved : goal.loop-i-preserved
loop-i-preserved c = let l = c.loop-i in
    let miss = lt-leb _ _ (rw l.invariant.1 at c.if-k-n.false) in (
      omega arith,
      elim c.if-is_found.branch [
        | then-is_found w ↦ count_hit _ l.i l.n l.invariant.1 (sym c.is_found.ensures ∙ w.if-is_found.true) w.n-is
        | else-is_found w ↦ count_miss _ l.i l.n l.invariant.1 (sym c.is_found.ensures ∙ w.if-is_found.false) w.n-is
      ],
      l.invariant.2 ∙ first_miss _ 2048 l.i (omega arith) miss,
    )

pub returns : goal.returns
returns c = let l = c.loop-i in let e : l.i ≡ 2048 = omega arith in sym (l.invariant.2 ∙ first_end _ 2048 l.i e)
