use Prim.Native.Nat.{◌+◌, ◌-◌}
use mathlib.Core.Path.{refl, sym, ◌∙◌}
use native.Mathlib.Omega.{arith}
use Rattle.rules.specs.Promises.{bench_of, state_of}
use Rattle.slots.specs.Reads.{shown_of}
use Rattle.stations.specs.Slots.{those_from, live_of}
use Rattle.stations.specs.Plans.{clearings}
use Rattle.stations.specs.Calls.{ended_of}
use Rattle.store.proofs.Clears.{clears_here, clears_past, clears_end, ends_there, goes_on_from}
use Rattle.store.proofs.writes.clear_others.Goals as goal

pub loop-i-init : goal.loop-i-init
loop-i-init c = let p = c.requires in record { going = p.0; turns = omega arith; few = omega (arith, p.1); same_array = refl; same_security = refl; is = refl }

pub write_mark-at-requires : goal.write_mark-at-requires
write_mark-at-requires c = let l = c.loop-i in (omega arith, omega (arith, l.invariant.few))

pub returns-then-at-ne0 : goal.returns-then-at-ne0
returns-then-at-ne0 c = let l = c.loop-i in let a = c.args in let w = c.write_mark-at in let e = c.entry_of-entry in
    let t = live_of (shown_of a.read.now) a.station in let s = state_of (bench_of l.at.chip l.array l.security) in
    ends_there s a.allowance e.result l.at.polls a.list.now l.turn _ (clearings (those_from t (l.i + 1) (2048 - (l.i + 1)))) w.result w.new.array w.new.security e.ensures w.ensures.security_after c.if-at-ne0.true
    ∙ clears_here t l.i (omega arith) s a.allowance a.list.now l.turn l.at.polls (sym c.is_live_of.ensures ∙ c.if-not-is_live_of.false)
    ∙ l.invariant.is

pub loop-i-preserved-then-not-is_live_of : goal.loop-i-preserved-then-not-is_live_of
loop-i-preserved-then-not-is_live_of c = let l = c.loop-i in let a = c.args in let v = l.invariant in
    let t = live_of (shown_of a.read.now) a.station in let s = state_of (bench_of l.at.chip l.array l.security) in
    record {
      going = v.going;
      turns = omega (arith, v.turns);
      few = omega (arith, v.few);
      same_array = v.same_array;
      same_security = v.same_security;
      is = clears_past t l.i (omega arith) s a.allowance a.list.now l.turn l.at.polls (sym c.is_live_of.ensures ∙ c.if-not-is_live_of.true) ∙ v.is;
    }

pub loop-i-preserved : goal.loop-i-preserved
loop-i-preserved c = let l = c.loop-i in let a = c.args in let w = c.write_mark-at in let e = c.entry_of-entry in
    let t = live_of (shown_of a.read.now) a.station in let s = state_of (bench_of l.at.chip l.array l.security) in
    let few = w.ensures.few in
    record {
      going = c.if-at-ne0.false;
      turns = omega (arith, l.invariant.turns);
      few = omega (arith, few, l.invariant.few);
      same_array = w.auto.array ∙ l.invariant.same_array;
      same_security = w.auto.security ∙ l.invariant.same_security;
      is = goes_on_from s a.allowance e.result l.at.polls a.list.now l.turn _ (clearings (those_from t (l.i + 1) (2048 - (l.i + 1)))) w.result w.new.array w.new.security e.ensures w.ensures.security_after c.if-at-ne0.false
          ∙ clears_here t l.i (omega arith) s a.allowance a.list.now l.turn l.at.polls (sym c.is_live_of.ensures ∙ c.if-not-is_live_of.false)
          ∙ l.invariant.is;
    }

pub returns : goal.returns
returns c = let l = c.loop-i in let a = c.args in let t = live_of (shown_of a.read.now) a.station in
    (λ i. ended_of (l.invariant.going i) l.at.polls (state_of (bench_of l.at.chip l.array l.security)))
    ∙ clears_end t l.i (omega arith) (state_of (bench_of l.at.chip l.array l.security)) a.allowance a.list.now l.turn l.at.polls
    ∙ l.invariant.is
