-- One turn, and that turn to the end. Assumes nothing.
use mathlib.Core.Path.{◌∙◌}
use Rattle.rules.specs.declared.Cell.{Cell}
use Rattle.reading.proofs.Turns.{turns_all}
use Rattle.reading.proofs.Upto.{upto_all}
use native.Mathlib.Omega.{arith}
use Rattle.reading.proofs.read_burst.Goals as goal

pub first_turn-requires : goal.first_turn-requires
first_turn-requires c = let p = c.requires in (p.0, (p.1.0, (p.1.1.0, (p.1.1.1.0, p.1.1.1.1.0))))

pub repeat-requires : goal.repeat-requires
repeat-requires c = let s = c in
    let t = c.if-n-reply.true in
    let y = c.first_turn.ensures.bytes.size in
    let f = s.requires.1.1.1.1.1 in
    (s.requires.1.1.1.0.some, (omega arith, omega arith))

pub repeat-requires-then-n-reply : goal.repeat-requires-then-n-reply
repeat-requires-then-n-reply c = let s = c in
    let t = c.if-n-reply.true in
    let q = c.first_turn.ensures in
    let y = q.bytes.size in
    let z = q.known.size in
    let m = s.requires.1.1.1.1.0 in
    let f = s.requires.1.1.1.1.1 in
    (s.requires.1.1.1.0.some, (omega arith, omega arith))

pub shape_of-reply-then-n-reply : goal.shape_of-reply-then-n-reply
shape_of-reply-then-n-reply c = c.repeat.ensures.size ∙ c.first_turn.ensures.bytes.size

pub shape_of-marks-then-n-reply : goal.shape_of-marks-then-n-reply
shape_of-marks-then-n-reply c = c.repeat-then-n-reply.ensures.size ∙ c.first_turn.ensures.known.size

pub returns-then-n-reply : goal.returns-then-n-reply
returns-then-n-reply c = let s = c in
    let a = s.args in
    let d = s.requires.1.1.1.0 in
    let m = s.requires.1.1.1.1.0 in
    let t = c.if-n-reply.true in
    let q = c.first_turn.ensures in
    let y = q.bytes.size in record {
      bytes = turns_all a.p a.r a.array.now a.n a.at d (λ (x : Cell). x.byte) _ _ _ q.bytes (omega arith) c.repeat.ensures;
      known = turns_all a.p a.r a.array.now a.n a.at d (λ (x : Cell). x.mark) _ _ _ q.known (omega arith) c.repeat-then-n-reply.ensures;
    }

pub shape_of-reply-else-n-reply : goal.shape_of-reply-else-n-reply
shape_of-reply-else-n-reply c = c.first_turn.ensures.bytes.size

pub shape_of-marks-else-n-reply : goal.shape_of-marks-else-n-reply
shape_of-marks-else-n-reply c = c.first_turn.ensures.known.size

pub returns-else-n-reply : goal.returns-else-n-reply
returns-else-n-reply c = let s = c in
    let m = s.requires.1.1.1.1.0 in
    let t = c.if-n-reply.false in
    let q = c.first_turn.ensures in
    let y = q.bytes.size in
    record { bytes = upto_all q.bytes (omega arith); known = upto_all q.known (omega arith) }
