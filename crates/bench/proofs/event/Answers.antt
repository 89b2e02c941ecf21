-- Bytes that are no code are refused; an event that stops what runs is `stop`'s; else the machine's turn holds of the record read, and what it leaves is written back.
-- Assumes nothing.
use mathlib.Core.Path.{sym, ap, ◌∙◌}
use mathlib.Core.Bool.{not}
use native.Mathlib.Omega.{arith}
use lib.Seq.{length_front}
use Rattle.chip.specs.Turns.{call_of}
use Rattle.bench.specs.Boundary.{lent_bench_of, circumstances_in}
use Rattle.bench.proofs.Calls.{code_size, code_page, code_back, event_refused, call_taken, cut_asked, reset_asked, cut_called, reset_called}
use Rattle.bench.proofs.event.Goals as goal

pub rest_in-r-requires : goal.rest_in-r-requires
rest_in-r-requires c = code_size _ _ c.is_code.ensures (ap not c.if-not-is_code.false)

pub slice_bounds-state_right-end : goal.slice_bounds-state_right-end
slice_bounds-state_right-end c = let h = code_size _ _ c.is_code.ensures (ap not c.if-not-is_code.false) in omega arith

pub slice_bounds-state_right-end-2 : goal.slice_bounds-state_right-end-2
slice_bounds-state_right-end-2 c = sym (code_page _ _ c.is_code.ensures (ap not c.if-not-is_code.false))

pub state_right-known-requires : goal.state_right-known-requires
state_right-known-requires c = code_page _ _ c.is_code.ensures (ap not c.if-not-is_code.false)

pub slice_bounds-take_turn-end : goal.slice_bounds-take_turn-end
slice_bounds-take_turn-end c = let h = code_size _ _ c.is_code.ensures (ap not c.if-not-is_code.false) in omega arith

pub slice_bounds-take_turn-end-2 : goal.slice_bounds-take_turn-end-2
slice_bounds-take_turn-end-2 c = sym (code_page _ _ c.is_code.ensures (ap not c.if-not-is_code.false))

pub put_rest-requires : goal.put_rest-requires
put_rest-requires c = let m = c.take_turn-t in code_back _ _ c.is_code.ensures (ap not c.if-not-is_code.false) m.new.page m.auto.page

pub shape_of-bytes : goal.shape_of-bytes
shape_of-bytes c = let m = c.take_turn-t in c.put_rest.auto.coded ∙ length_front c.args.bytes.now m.new.page 256 m.auto.page

pub shape_of-array : goal.shape_of-array
shape_of-array c = c.take_turn-t.auto.array

pub shape_of-security : goal.shape_of-security
shape_of-security c = c.take_turn-t.auto.security

pub shape_of-reply : goal.shape_of-reply
shape_of-reply c = c.take_turn-t.auto.reply

pub shape_of-marks : goal.shape_of-marks
shape_of-marks c = c.take_turn-t.auto.marks

pub returns-then-not-is_code : goal.returns-then-not-is_code
returns-then-not-is_code c =
    let a = c.args in
    event_refused (lent_bench_of a.bytes.now a.array.now a.security.now) a.e a.sent.now a.reply.now a.marks.now (circumstances_in a.x) _ c.is_code.ensures c.requires.0 c.requires.1 (ap not c.if-not-is_code.true)

pub stop-requires : goal.stop-requires
stop-requires c =
    let a = c.args in
    cut_asked (lent_bench_of a.bytes.now a.array.now a.security.now) c.state_right-known.result c.rest_in-r.result a.sent.now a.reply.now a.marks.now _ c.is_code.ensures (ap not c.if-not-is_code.false) c.rest_in-r.ensures c.state_right-known.ensures
    a.e (sym c.cuts.ensures ∙ c.if-cuts.true) c.requires.0 c.requires.1

pub returns-then-cuts : goal.returns-then-cuts
returns-then-cuts c =
    let a = c.args in
    cut_called (lent_bench_of a.bytes.now a.array.now a.security.now) c.state_right-known.result c.rest_in-r.result a.sent.now a.reply.now a.marks.now (circumstances_in a.x) _
    a.e (sym c.cuts.ensures ∙ c.if-cuts.true) c.stop.ensures

pub stop-requires-then-resets : goal.stop-requires-then-resets
stop-requires-then-resets c =
    let a = c.args in
    reset_asked (lent_bench_of a.bytes.now a.array.now a.security.now) c.state_right-known.result c.rest_in-r.result a.sent.now a.reply.now a.marks.now _ c.is_code.ensures (ap not c.if-not-is_code.false) c.rest_in-r.ensures c.state_right-known.ensures
    a.e (sym c.resets.ensures ∙ c.if-resets.true)

pub returns-then-resets : goal.returns-then-resets
returns-then-resets c =
    let a = c.args in
    reset_called (lent_bench_of a.bytes.now a.array.now a.security.now) c.state_right-known.result c.rest_in-r.result a.sent.now a.reply.now a.marks.now (circumstances_in a.x) _
    a.e (sym c.resets.ensures ∙ c.if-resets.true) c.stop-then-resets.ensures

pub take_turn-t-requires : goal.take_turn-t-requires
take_turn-t-requires c =
    record {
      paged = code_page _ _ c.is_code.ensures (ap not c.if-not-is_code.false);
      judged = c.state_right-known.ensures;
      uncut = sym c.cuts.ensures ∙ c.if-cuts.false;
      unreset = sym c.resets.ensures ∙ c.if-resets.false;
      bytes = c.requires.0;
      marked = c.requires.1;
    }

pub returns : goal.returns
returns c =
    let a = c.args in
    let x = circumstances_in a.x in
    let m = c.take_turn-t in
    call_taken (lent_bench_of a.bytes.now a.array.now a.security.now) (call_of a.e a.sent.now a.reply.now a.marks.now x) _ c.is_code.ensures _ m.result m.new.page _ m.new.array m.new.security m.new.reply m.new.marks _
    (ap not c.if-not-is_code.false) c.rest_in-r.ensures (m.ensures x) m.auto.page c.put_rest.ensures c.answer_number.ensures
