use Prim.Native.Nat.{ℕ, ◌+◌, ◌-◌}
use mathlib.Core.Path.{◌≡◌, refl, sym, ap, ◌∙◌}
use native.Mathlib.Omega.{arith}
use borrow.Author.Tests.{not-true, not-false}
use Rattle.rules.specs.Promises.{bench_of, state_of}
use Rattle.stations.specs.Calls.{ends, ended_of, played, polling}
use Rattle.store.proofs.Steps.{poll_refused, poll_ended, poll_again, polls_over, refused_some, done_none}
use Rattle.store.proofs.writes.poll.Goals as goal

pub loop-made-init : goal.loop-made-init
loop-made-init c = let a = c.args in let z : a.allowance - 0 ≡ a.allowance = omega arith in (refl, refl, ap (λ (x : ℕ). played (state_of (bench_of a.c a.array.now a.security.now)) (polling x 0 a.entry a.polls (ends 0))) z)

pub shape_of-array-in_default : goal.shape_of-array-in_default
shape_of-array-in_default c = c.poll_once-t.auto.array ∙ c.loop-made.invariant.0

pub shape_of-security-in_default : goal.shape_of-security-in_default
shape_of-security-in_default c = c.poll_once-t.auto.security ∙ c.loop-made.invariant.1

pub returns-in_default : goal.returns-in_default
returns-in_default c = let l = c.loop-made in let a = c.args in record {
  security_after = poll_refused (bench_of l.at l.array l.security) a.allowance l.made a.entry a.polls (omega (arith, c.loop-made-test.true)) c.arrives_next-arrives.ensures c.poll_once-t.ensures c.answer_number.ensures (refused_some _ _ c.in_default.is)
      ∙ l.invariant.2;
  few = omega arith;
}

pub shape_of-array-then-not-t : goal.shape_of-array-then-not-t
shape_of-array-then-not-t c = c.poll_once-t.auto.array ∙ c.loop-made.invariant.0

pub shape_of-security-then-not-t : goal.shape_of-security-then-not-t
shape_of-security-then-not-t c = c.poll_once-t.auto.security ∙ c.loop-made.invariant.1

pub returns-then-not-t : goal.returns-then-not-t
returns-then-not-t c = let l = c.loop-made in let a = c.args in let count : a.polls + c.from.result + 1 ≡ a.polls + (l.made + 1) = omega (arith, c.from.ensures) in record {
  security_after = ap (λ (x : ℕ). ended_of 0 x (state_of (bench_of c.poll_once-t.result.chip c.poll_once-t.new.array c.poll_once-t.new.security))) count
      ∙ poll_ended (bench_of l.at l.array l.security) a.allowance l.made a.entry a.polls (omega (arith, c.loop-made-test.true)) c.arrives_next-arrives.ensures c.poll_once-t.ensures (done_none _ c.in-Ok.is) (not-true _ c.if-not-t.true)
      ∙ l.invariant.2;
  few = omega (arith, c.loop-made-test.true, c.from.ensures);
}

pub loop-made-preserved : goal.loop-made-preserved
loop-made-preserved c = let l = c.loop-made in let a = c.args in (
  c.poll_once-t.auto.array ∙ c.loop-made.invariant.0,
  c.poll_once-t.auto.security ∙ c.loop-made.invariant.1,
  poll_again (bench_of l.at l.array l.security) a.allowance l.made a.entry a.polls (omega (arith, c.loop-made-test.true)) c.arrives_next-arrives.ensures c.poll_once-t.ensures (done_none _ c.in-Ok.is) (not-false _ c.if-not-t.false)
      ∙ l.invariant.2,
)

pub shape_of-array : goal.shape_of-array
shape_of-array c = c.loop-made.invariant.0

pub shape_of-security : goal.shape_of-security
shape_of-security c = c.loop-made.invariant.1

pub returns : goal.returns
returns c = let l = c.loop-made in let a = c.args in let s = state_of (bench_of l.at l.array l.security) in let end : l.made ≡ a.allowance = omega arith in record {
  security_after = ap (λ (x : ℕ). ended_of 18 x s) (c.used_up.ensures ∙ ap (λ (x : ℕ). a.polls + x) (sym end)) ∙ polls_over s a.allowance l.made a.entry a.polls (omega arith) ∙ l.invariant.2;
  few = omega (arith, c.used_up.ensures);
}

pub used_up-requires : goal.used_up-requires
used_up-requires c = c.requires
