-- 06, the frame, the polls; a refusal ends it. Assumes nothing.
use mathlib.Core.Path.{◌∙◌}
use native.Mathlib.Omega.{arith}
use Rattle.rules.specs.Promises.{bench_of}
use Rattle.stations.specs.Calls.{ends}
use Rattle.store.proofs.Steps.{latch_refused, frame_refused, frame_begun, refused_some, done_none}
use Rattle.store.proofs.writes.write.Goals as goal

pub returns-in_default : goal.returns-in_default
returns-in_default c = let a = c.args in
    record { security_after = latch_refused (bench_of a.s.chip a.array.now a.security.now) a.allowance a.entry a.s.polls a.frame.now (ends 0) c.send-latched.ensures c.answer_number.ensures (refused_some _ _ c.in_default.is); few = omega arith }

pub returns-in_default-taken : goal.returns-in_default-taken
returns-in_default-taken c = let a = c.args in
    record { security_after = frame_refused (bench_of a.s.chip a.array.now a.security.now) a.allowance a.entry a.s.polls a.frame.now (ends 0) c.send-latched.ensures (done_none _ c.in-Ok.is) c.send-begun.ensures c.answer_number-in_default-taken.ensures (refused_some _ _ c.in_default-taken.is); few = omega arith }

pub poll-requires : goal.poll-requires
poll-requires c = c.requires

pub shape_of-array : goal.shape_of-array
shape_of-array c = c.poll.auto.array ∙ c.send-begun.auto.array ∙ c.send-latched.auto.array

pub shape_of-security : goal.shape_of-security
shape_of-security c = c.poll.auto.security ∙ c.send-begun.auto.security ∙ c.send-latched.auto.security

pub returns : goal.returns
returns c = let a = c.args in let polled = c.poll.ensures in
    record { security_after = polled.security_after ∙ frame_begun (bench_of a.s.chip a.array.now a.security.now) a.allowance a.entry a.s.polls a.frame.now (ends 0) c.send-latched.ensures (done_none _ c.in-Ok.is) c.send-begun.ensures (done_none _ c.in-Ok-taken.is); few = polled.few }
