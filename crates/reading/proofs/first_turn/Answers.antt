-- Two pieces of one page: up to the group's end, and from its start. Assumes nothing.
use mathlib.Core.Path.{◌∙◌}
use native.Mathlib.Nat.{mod-lt, mod-le}
use Rattle.rules.specs.declared.Cell.{Cell}
use Rattle.rules.proofs.Bursts.{group_in_page, start_in_page}
use Rattle.reading.proofs.Turns.{turn_short, turn_whole}
use native.Mathlib.Omega.{arith}
use Rattle.reading.proofs.first_turn.Goals as goal

pub nonzero_rem-off : goal.nonzero_rem-off
nonzero_rem-off c = let d = c.requires.1.1.1.0.some in omega arith

pub overflow_sub-n : goal.overflow_sub-n
overflow_sub-n c = let s = c in let l = mod-lt s.args.at s.requires.1.1.1.0.some in omega arith

pub read_piece-requires : goal.read_piece-requires
read_piece-requires c = let s = c in
    let h = c.min-high.ensures in
    let g = group_in_page s.args.n s.args.at s.requires.1.1.1.0 in
    let m = s.requires.1.1.1.1 in
    (s.requires.0, (s.requires.1.0, (s.requires.1.1.0, (omega arith, (omega arith, omega arith)))))

pub overflow_sub-at : goal.overflow_sub-at
overflow_sub-at c = let a = c.args in let l = mod-le a.at a.n in omega arith

pub read_piece-requires-then-high-all : goal.read_piece-requires-then-high-all
read_piece-requires-then-high-all c = let s = c in
    let h = c.min-high.ensures in
    let k = c.min-low.ensures in
    let t = c.if-high-all.true in
    let g = start_in_page s.args.n s.args.at s.requires.1.1.1.0 in
    let b = s.requires.1.1.0 in
    let m = s.requires.1.1.1.1 in
    let q = c.read_piece.ensures in
    let y = q.bytes.size in
    let z = q.known.size in
    (s.requires.0, (s.requires.1.0, (omega arith, (omega arith, (omega arith, omega arith)))))

pub shape_of-reply-then-high-all : goal.shape_of-reply-then-high-all
shape_of-reply-then-high-all c = c.read_piece-then-high-all.ensures.bytes.size ∙ c.read_piece.ensures.bytes.size

pub shape_of-marks-then-high-all : goal.shape_of-marks-then-high-all
shape_of-marks-then-high-all c = c.read_piece-then-high-all.ensures.known.size ∙ c.read_piece.ensures.known.size

pub returns-then-high-all : goal.returns-then-high-all
returns-then-high-all c = let s = c in
    let a = s.args in
    let d = s.requires.1.1.1.0 in
    let m = s.requires.1.1.1.1 in
    let h = c.min-high.ensures in
    let k = c.min-low.ensures in
    let t = c.if-high-all.true in
    let q = c.read_piece.ensures in
    let w = c.read_piece-then-high-all.ensures in record {
      bytes = turn_whole a.p a.r a.array.now a.n a.at d (λ (x : Cell). x.byte) _ _ a.reply.now _ _ h t k q.bytes w.bytes;
      known = turn_whole a.p a.r a.array.now a.n a.at d (λ (x : Cell). x.mark) _ _ a.marks.now _ _ (omega arith) (omega arith) (omega arith) q.known w.known;
    }

pub shape_of-reply-else-high-all : goal.shape_of-reply-else-high-all
shape_of-reply-else-high-all c = c.read_piece.ensures.bytes.size

pub shape_of-marks-else-high-all : goal.shape_of-marks-else-high-all
shape_of-marks-else-high-all c = c.read_piece.ensures.known.size

pub returns-else-high-all : goal.returns-else-high-all
returns-else-high-all c = let s = c in
    let a = s.args in
    let d = s.requires.1.1.1.0 in
    let m = s.requires.1.1.1.1 in
    let h = c.min-high.ensures in
    let t = c.if-high-all.false in
    let q = c.read_piece.ensures in record {
      bytes = turn_short a.p a.r a.array.now a.n a.at d (λ (x : Cell). x.byte) _ a.reply.now _ h (omega arith) q.bytes;
      known = turn_short a.p a.r a.array.now a.n a.at d (λ (x : Cell). x.mark) _ a.marks.now _ (omega arith) (omega arith) q.known;
    }
