-- The first write, the second, the clears: each goes on from a done one. Assumes nothing.
use mathlib.Core.Path.{◌∙◌}
use mathlib.Core.List.{◌∷◌}
use native.Mathlib.Omega.{arith}
use Rattle.rules.specs.Promises.{bench_of, state_of}
use Rattle.stations.specs.Slots.{those_from, live_of}
use Rattle.slots.specs.Reads.{shown_of}
use Rattle.stations.specs.Plans.{record_frame, mark_frame, clearings}
use Rattle.store.proofs.Clears.{ends_there, goes_on_from}
use Rattle.store.proofs.writes.write_all.Goals as goal

pub returns-then-recorded-ne0 : goal.returns-then-recorded-ne0
returns-then-recorded-ne0 c = let a = c.args in let w = c.write_record-recorded in let e = c.entry_of in let v = shown_of a.read.now in
    let clears = clearings (those_from (live_of v a.station) 0 2048) in let s = state_of (bench_of a.c a.array.now a.security.now) in
    ends_there s a.allowance e.result 0 a.list.now 0 (record_frame a.i a.station a.«data».now) (mark_frame a.i 0x53 0x54 ∷ clears) w.result w.new.array w.new.security e.ensures w.ensures.security_after c.if-recorded-ne0.true

pub write_mark-marked-requires : goal.write_mark-marked-requires
write_mark-marked-requires c = (c.requires, omega (arith, c.write_record-recorded.ensures.few))

pub returns-then-marked-ne0 : goal.returns-then-marked-ne0
returns-then-marked-ne0 c = let a = c.args in let w = c.write_record-recorded in let e = c.entry_of in let v = shown_of a.read.now in
    let clears = clearings (those_from (live_of v a.station) 0 2048) in let s = state_of (bench_of a.c a.array.now a.security.now) in
    let m = c.write_mark-marked in let d = c.entry_of-2 in let t = state_of (bench_of w.result.chip w.new.array w.new.security) in
    ends_there t a.allowance d.result w.result.polls a.list.now 1 (mark_frame a.i 0x53 0x54) clears m.result m.new.array m.new.security d.ensures m.ensures.security_after c.if-marked-ne0.true
    ∙ goes_on_from s a.allowance e.result 0 a.list.now 0 (record_frame a.i a.station a.«data».now) (mark_frame a.i 0x53 0x54 ∷ clears) w.result w.new.array w.new.security e.ensures w.ensures.security_after c.if-recorded-ne0.false

pub clear_others-requires : goal.clear_others-requires
clear_others-requires c = (c.if-marked-ne0.false, omega (arith, c.write_mark-marked.ensures.few, c.write_record-recorded.ensures.few))

pub shape_of-array : goal.shape_of-array
shape_of-array c = c.clear_others.auto.array ∙ c.write_mark-marked.auto.array ∙ c.write_record-recorded.auto.array

pub shape_of-security : goal.shape_of-security
shape_of-security c = c.clear_others.auto.security ∙ c.write_mark-marked.auto.security ∙ c.write_record-recorded.auto.security

pub returns : goal.returns
returns c = let a = c.args in let w = c.write_record-recorded in let e = c.entry_of in let v = shown_of a.read.now in
    let clears = clearings (those_from (live_of v a.station) 0 2048) in let s = state_of (bench_of a.c a.array.now a.security.now) in
    let m = c.write_mark-marked in let d = c.entry_of-2 in let t = state_of (bench_of w.result.chip w.new.array w.new.security) in
    c.clear_others.ensures
    ∙ goes_on_from t a.allowance d.result w.result.polls a.list.now 1 (mark_frame a.i 0x53 0x54) clears m.result m.new.array m.new.security d.ensures m.ensures.security_after c.if-marked-ne0.false
    ∙ goes_on_from s a.allowance e.result 0 a.list.now 0 (record_frame a.i a.station a.«data».now) (mark_frame a.i 0x53 0x54 ∷ clears) w.result w.new.array w.new.security e.ensures w.ensures.security_after c.if-recorded-ne0.false
