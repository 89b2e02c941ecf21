-- 1 before anything is sent; the read; no empty slot; the writes. Assumes nothing.
use mathlib.Core.Path.{refl, ◌∙◌}
use Rattle.rules.specs.Promises.{returned_of}
use Rattle.stations.specs.Promises.{desk_of}
use Rattle.store.proofs.Steps.{refused_some, done_none}
use Rattle.store.proofs.Calls.{store_ok, wrong_buffers, wrong_data, wrong_allowance, read_is, store_1, store_read, store_16, store_written}
use Rattle.store.proofs.store.Goals as goal

pub returns-then-not-buffers_right : goal.returns-then-not-buffers_right
returns-then-not-buffers_right c = let a = c.args in let d = (desk_of a.array.now a.security.now a.reply.now a.marks.now) in
    store_1 a.s d a.station a.«data».now a.allowance a.list.now (wrong_buffers a.s d a.station a.«data».now a.allowance a.list.now c.buffers_right.ensures c.if-not-buffers_right.true)

pub returns-in_default : goal.returns-in_default
returns-in_default c = let a = c.args in let d = (desk_of a.array.now a.security.now a.reply.now a.marks.now) in
    store_1 a.s d a.station a.«data».now a.allowance a.list.now (wrong_data a.s d a.station a.«data».now a.allowance a.list.now c.in_default.ensures.cases)

pub returns-in_default-try_from : goal.returns-in_default-try_from
returns-in_default-try_from c = let a = c.args in let d = (desk_of a.array.now a.security.now a.reply.now a.marks.now) in
    store_1 a.s d a.station a.«data».now a.allowance a.list.now (wrong_allowance a.s d a.station a.«data».now a.allowance a.list.now c.in_default-try_from.ensures)

pub returns-in_default-answer : goal.returns-in_default-answer
returns-in_default-answer c = let a = c.args in let g = c.read_list-after in let ok = store_ok a.s (desk_of a.array.now a.security.now a.reply.now a.marks.now) a.station a.«data».now a.allowance a.list.now c.buffers_right.ensures c.if-not-buffers_right.false c.in-Some.ensures.cases.long c.in-Ok.ensures.0 in
    let gave = returned_of g.result g.new.array g.new.security g.new.reply g.new.marks in
    store_read a.s (desk_of a.array.now a.security.now a.reply.now a.marks.now) a.station a.«data».now a.allowance a.list.now ok gave (read_is g.ensures) _ c.answer_number.ensures (refused_some _ _ c.in_default-answer.is)

pub returns-in_default-slot_for : goal.returns-in_default-slot_for
returns-in_default-slot_for c = let a = c.args in let g = c.read_list-after in let ok = store_ok a.s (desk_of a.array.now a.security.now a.reply.now a.marks.now) a.station a.«data».now a.allowance a.list.now c.buffers_right.ensures c.if-not-buffers_right.false c.in-Some.ensures.cases.long c.in-Ok.ensures.0 in
    let gave = returned_of g.result g.new.array g.new.security g.new.reply g.new.marks in
    store_16 a.s (desk_of a.array.now a.security.now a.reply.now a.marks.now) a.station a.«data».now a.allowance a.list.now ok gave (read_is g.ensures) (done_none _ c.in-Ok-answer.is) _ refl c.in_default-slot_for.ensures

pub shape_of-array : goal.shape_of-array
shape_of-array c = c.write_all.auto.array ∙ c.read_list-after.auto.array

pub shape_of-security : goal.shape_of-security
shape_of-security c = c.write_all.auto.security ∙ c.read_list-after.auto.security

pub returns : goal.returns
returns c = let a = c.args in let g = c.read_list-after in let ok = store_ok a.s (desk_of a.array.now a.security.now a.reply.now a.marks.now) a.station a.«data».now a.allowance a.list.now c.buffers_right.ensures c.if-not-buffers_right.false c.in-Some.ensures.cases.long c.in-Ok.ensures.0 in
    let gave = returned_of g.result g.new.array g.new.security g.new.reply g.new.marks in
    store_written a.s (desk_of a.array.now a.security.now a.reply.now a.marks.now) a.station a.«data».now a.allowance a.list.now ok gave (read_is g.ensures) (done_none _ c.in-Ok-answer.is) _ c.in-Some-slot_for.ensures.0 c.in-Some-slot_for.ensures.1 c.in-Some.ensures.cases.same c.in-Ok.ensures.1 _ _ _ c.write_all.ensures
