use Prim.Native.Nat.{ℕ}
use mathlib.Core.Path.{ap}
use Rattle.rules.specs.Words.{lent}
use Rattle.rules.specs.Reading.{place_cell}
use Rattle.reading.proofs.Upto.{upto_none, upto_piece, upto_all, piece, place_on}
use native.Mathlib.Omega.{arith}
use Rattle.reading.proofs.read_array.Goals as goal

pub loop-i-init : goal.loop-i-init
loop-i-init c = record { low = omega arith; bytes = upto_none _ _; known = upto_none _ _ }

pub overflow_add-a : goal.overflow_add-a
overflow_add-a c = let s = c.requires.1.1.1.1 in let l = c.loop-i.invariant.low in let p = c.requires.1.1.0 in omega arith

pub alike-requires : goal.alike-requires
alike-requires c = c.requires.0.inside

pub read_alike-requires : goal.read_alike-requires
read_alike-requires c = let l = c.loop-i in
    let s = c in
    let t = c.loop-i-test.true in
    let h = l.invariant.bytes.size in
    let k = l.invariant.known.size in
    let m = s.requires.1.1.1.0 in
    let q = piece s.args.r _ _ _ _ c.alike.ensures c.min-n.ensures (omega arith) in
    let n = q.most in
    let g = q.in_sector in
    (s.requires.0.inside, (s.requires.1.0, (omega arith, (omega arith, (q.is_alike, (omega arith, omega arith))))))

pub overflow_add-i : goal.overflow_add-i
overflow_add-i c = let l = c.loop-i in
    let n = c.min-n.ensures in
    let h = l.invariant.bytes.size in
    let t = c.loop-i-test.true in
    let s = c.requires.1.1.1.1 in
    omega arith

pub loop-i-smaller : goal.loop-i-smaller
loop-i-smaller c = let w = c in
    let l = w.loop-i in
    let s = w in
    let t = w.loop-i-test.true in
    let h = l.invariant.bytes.size in
    let q = piece s.args.r _ _ _ _ w.alike.ensures w.min-n.ensures (omega arith) in
    let x = q.some in
    let y = q.most in
    omega arith

pub loop-i-preserved : goal.loop-i-preserved
loop-i-preserved c = let w = c in
    let l = w.loop-i in
    let s = w in
    let t = w.loop-i-test.true in
    let h = l.invariant.bytes.size in
    let q = piece s.args.r _ _ _ _ w.alike.ensures w.min-n.ensures (omega arith) in
    let y = q.most in
    let g = q.in_sector in
    record {
      low = omega arith;
      bytes = upto_piece _ _ _ _ _ _ _ l.invariant.bytes c.read_alike.ensures.bytes
          (λ j below. ap (λ (x : ℕ). (place_cell s.args.p s.args.r (lent s.args.array.now) x).byte) (place_on s.args.at l.i j (omega arith)));
      known = upto_piece _ _ _ _ _ _ _ l.invariant.known c.read_alike.ensures.known
          (λ j below. ap (λ (x : ℕ). (place_cell s.args.p s.args.r (lent s.args.array.now) x).mark) (place_on s.args.at l.i j (omega arith)));
    }

pub shape_of-reply : goal.shape_of-reply
shape_of-reply c = c.loop-i.invariant.bytes.size

pub shape_of-marks : goal.shape_of-marks
shape_of-marks c = c.loop-i.invariant.known.size

pub returns : goal.returns
returns c = let s = c in
    let l = c.loop-i in
    let h = l.invariant.bytes.size in
    let m = s.requires.1.1.1.0 in
    let t = c.loop-i-test.false in
    record { bytes = upto_all l.invariant.bytes (omega arith); known = upto_all l.invariant.known (omega arith) }
