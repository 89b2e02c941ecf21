-- This turn's byte and mark are those at the number of turns so far. Assumes nothing.
use Rattle.std.proofs.Common.{take, drop, length-append}
use Rattle.std.proofs.lemmas.Slice.Zip.{zip_turn}
use Rattle.byte_text.proofs.Laws.{marked_none, marked_next}
use Rattle.byte_text.proofs.marked_bytes.Goals as goal

pub loop-b-init : goal.loop-b-init
loop-b-init c = marked_none _ _ _ _

pub loop-b-preserved : goal.loop-b-preserved
loop-b-preserved c = let a = c.args in
    let z = zip_turn (take a.most (drop a.from a.l.now)) (take a.most (drop a.from a.marks.now)) c.loop-b.yielded c.into_iter-b-iterator.result c.loop-b.b-iterator c.next.new.self _ (cc) (cc) c.loop-b.yielded_by _ c.in-Some.is c.next.ensures.steps in
    rw length-append
    (marked_next a.r c.loop-b.q _ _ a.l.now a.marks.now a.from a.most _ _ _ c.loop-b.invariant c.add.ensures c.known_byte-q.ensures z.0 z.1 (z.2 0) (z.3 0))
