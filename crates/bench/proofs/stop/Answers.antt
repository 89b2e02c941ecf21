-- The record is read again, and what the chip leaves is written as an idle one. Assumes nothing.
use mathlib.Core.Path.{sym, ◌∙◌, subst}
use native.Mathlib.Omega.{arith}
use lib.Seq.{length_front}
use Rattle.rules.specs.declared.Circumstances.{Circumstances}
use Rattle.record_code.proofs.Faithful.{known_length}
use Rattle.chip.specs.Turns.{stop_call}
use Rattle.bench.specs.Boundary.{lent_bench_of, came_of, CallPromise}
use Rattle.bench.proofs.Calls.{page_size, page_back, rest_again, stop_asked, call_stopped}
use Rattle.bench.proofs.stop.Goals as goal

pub idle_in-r-requires : goal.idle_in-r-requires
idle_in-r-requires c = known_length _ c.requires.coded

pub works_in-r-requires : goal.works_in-r-requires
works_in-r-requires c = known_length _ c.requires.coded

pub slice_bounds-stop_turn-end : goal.slice_bounds-stop_turn-end
slice_bounds-stop_turn-end c = let h = known_length _ c.requires.coded in omega arith

pub slice_bounds-stop_turn-end-2 : goal.slice_bounds-stop_turn-end-2
slice_bounds-stop_turn-end-2 c = sym (page_size c.args.bytes.now (known_length _ c.requires.coded))

pub stop_turn-t-requires : goal.stop_turn-t-requires
stop_turn-t-requires c = let a = c.args in stop_asked a.up a.bytes.now a.array.now a.security.now a.reply.now a.marks.now _ (rest_again a.bytes.now _ _ c.idle_in-r.ensures c.works_in-r.ensures) c.requires

pub put_idle-requires : goal.put_idle-requires
put_idle-requires c = let m = c.stop_turn-t in page_back c.args.bytes.now (known_length _ c.requires.coded) m.new.page m.auto.page

pub shape_of-bytes : goal.shape_of-bytes
shape_of-bytes c = let m = c.stop_turn-t in c.put_idle.auto.coded ∙ length_front c.args.bytes.now m.new.page 256 m.auto.page

pub returns : goal.returns
returns c =
    let m = c.stop_turn-t in
    let a = c.args in
    let b = lent_bench_of a.bytes.now a.array.now a.security.now in
    subst (λ (x : Circumstances). CallPromise b (stop_call a.up a.reply.now a.marks.now x) (came_of 0 c.put_idle.new.coded m.new.array m.new.security m.new.reply m.new.marks))
    c.circumstances_of-circumstances.ensures
    (call_stopped b (stop_call a.up a.reply.now a.marks.now c.circumstances_of-circumstances.result) _ m.result m.new.page _ _ _ _ _ c.requires.coded
    (rest_again a.bytes.now _ _ c.idle_in-r.ensures c.works_in-r.ensures) (m.ensures.met, m.ensures.idle) m.auto.page c.put_idle.ensures)
