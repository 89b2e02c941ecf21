use Prim.Native.Nat.{◌%◌}
use mathlib.Core.Path.{◌≡◌, refl, ◌∙◌}
use native.Mathlib.Nat.{mod_self}
use mathlib.Core.Logic.{inr, ⊎_elim}
use lib.ListN.{length}
use Rattle.memory.proofs.Repeated.{turned_first, turned_more, turns_more, turn_added}
use native.Mathlib.Omega.{arith}
use Rattle.memory.proofs.repeat.Goals as goal

pub loop-done-init : goal.loop-done-init
loop-done-init c = let p = c.requires in
    let a = c.args in
    record { some = p.0; least = omega arith; most = p.1.0; few = p.1.1; size = refl; whole = inr (mod_self a.n); is = λ i h. turned_first a.s.now a.n i h }

pub loop-done-preserved : goal.loop-done-preserved
loop-done-preserved c =
    let l = c.loop-done in
    let a = c.args in
    let e : l.done % a.n ≡ 0 = ⊎_elim (λ q. absurd (omega arith)) (λ q. q) l.invariant.whole in
    let cut = c.split_at_mut-there.ensures in
    let p = turn_added l.s _ _ _ l.done c.min-m.result cut.front cut.back c.copy.ensures (omega arith) (omega arith) in
    record {
      some = l.invariant.some;
      least = omega arith;
      most = omega arith;
      few = l.invariant.few;
      size = p.size ∙ l.invariant.size;
      whole = turns_more a.n l.done (length a.s.now) _ e l.invariant.most (omega arith);
      is = turned_more _ l.s a.s.now a.n l.done _ e (omega arith) l.invariant.is p;
    }
