-- 1 before anything is sent; the read; no such slot; its data. Assumes nothing.
use mathlib.Core.Path.{refl, sym, ap, ◌∙◌}
use mathlib.Core.Bool.{Bool, ◌&&◌}
use lib.Dec.{eqb}
use borrow.Author.Tests.{eqb-true}
use Rattle.rules.proofs.Bools.{and_split}
use lib.ListN.{length}
use Rattle.rules.specs.Promises.{returned_of}
use Rattle.stations.specs.Slots.{slot_of}
use Rattle.stations.specs.Promises.{desk_of}
use Rattle.store.proofs.Steps.{refused_some, done_none}
use Rattle.store.proofs.Calls.{bytes_count, read_is, lookup_1, lookup_read, lookup_17, lookup_found}
use Rattle.store.proofs.lookup.Goals as goal

pub returns-then-not-buffers_right-buffer : goal.returns-then-not-buffers_right-buffer
returns-then-not-buffers_right-buffer c = let a = c.args in
    lookup_1 a.s (desk_of a.array.now a.security.now a.reply.now a.marks.now) a.station a.buffer.now (ap (λ (b : Bool). b && eqb (length a.buffer.now) 28) (sym c.buffers_right.ensures) ∙ c.if-not-buffers_right-buffer.true)

pub returns-in_default : goal.returns-in_default
returns-in_default c = let a = c.args in let g = c.read_list-after in let ok = ap (λ (b : Bool). b && eqb (length a.buffer.now) 28) (sym c.buffers_right.ensures) ∙ c.if-not-buffers_right-buffer.false in
    let gave = returned_of g.result g.new.array g.new.security g.new.reply g.new.marks in
    lookup_read a.s (desk_of a.array.now a.security.now a.reply.now a.marks.now) a.station a.buffer.now ok gave (read_is g.ensures) _ c.answer_number.ensures (refused_some _ _ c.in_default.is)

pub returns-in_default-live_from : goal.returns-in_default-live_from
unfolding slot_of
returns-in_default-live_from c = let a = c.args in let g = c.read_list-after in let ok = ap (λ (b : Bool). b && eqb (length a.buffer.now) 28) (sym c.buffers_right.ensures) ∙ c.if-not-buffers_right-buffer.false in
    let gave = returned_of g.result g.new.array g.new.security g.new.reply g.new.marks in
    lookup_17 a.s (desk_of a.array.now a.security.now a.reply.now a.marks.now) a.station a.buffer.now ok gave (read_is g.ensures) (done_none _ c.in-Ok.is) _ refl c.in_default-live_from.ensures.slot

pub copy_from_slice-requires : goal.copy_from_slice-requires
copy_from_slice-requires c = let a = c.args in
    eqb-true _ 28 (and_split c.buffers_right.result (eqb (length a.buffer.now) 28) c.if-not-buffers_right-buffer.false).1 ∙ sym (ap length c.data.ensures ∙ bytes_count _ _ 4 28)

pub returns : goal.returns
unfolding slot_of
returns c = let a = c.args in let g = c.read_list-after in let ok = ap (λ (b : Bool). b && eqb (length a.buffer.now) 28) (sym c.buffers_right.ensures) ∙ c.if-not-buffers_right-buffer.false in
    let gave = returned_of g.result g.new.array g.new.security g.new.reply g.new.marks in
    lookup_found a.s (desk_of a.array.now a.security.now a.reply.now a.marks.now) a.station a.buffer.now ok gave (read_is g.ensures) (done_none _ c.in-Ok.is) _ c.in-Some.ensures.slot.0 c.in-Some.ensures.slot.1 _ (c.copy_from_slice.ensures.after ∙ c.data.ensures)
