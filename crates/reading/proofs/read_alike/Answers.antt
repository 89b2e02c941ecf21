-- Places that are alike are read-locked, suspended or stored as a whole. Assumes nothing.
use mathlib.Core.Path.{ap}
use Rattle.rules.specs.declared.Cell.{Cell}
use Rattle.rules.specs.Words.{lent}
use Rattle.reading.proofs.Upto.{locked_piece, suspended_piece, stored_piece, patched_same}
use Rattle.reading.proofs.read_alike.Goals as goal

pub returns-then-read_locked : goal.returns-then-read_locked
returns-then-read_locked c = let a = c in
    let cell = locked_piece a.args.p a.args.r (lent a.args.array.now) a.args.a a.args.n a.requires.1.1.1.1.0 _ c.read_locked.ensures c.if-read_locked.true in record {
      bytes = patched_same _ _ _ _ _ _ c.set_all.ensures (λ j h. ap (λ (x : Cell). x.byte) (cell j h));
      known = patched_same _ _ _ _ _ _ c.set_all-then-read_locked.ensures (λ j h. ap (λ (x : Cell). x.mark) (cell j h));
    }

pub holds_place-requires : goal.holds_place-requires
holds_place-requires c = c.requires.0

pub returns-then-holds_place : goal.returns-then-holds_place
returns-then-holds_place c = let a = c in
    let cell = suspended_piece a.args.p a.args.r (lent a.args.array.now) a.args.a a.args.n a.requires.1.1.1.1.0 _ _ c.read_locked.ensures c.if-read_locked.false c.holds_place.ensures c.if-holds_place.true in record {
      bytes = patched_same _ _ _ _ _ _ c.set_all-then-holds_place.ensures (λ j h. ap (λ (x : Cell). x.byte) (cell j h));
      known = patched_same _ _ _ _ _ _ c.set_all-then-holds_place-2.ensures (λ j h. ap (λ (x : Cell). x.mark) (cell j h));
    }

pub returns : goal.returns
returns c = let a = c in
    let cell = stored_piece a.args.p a.args.r (lent a.args.array.now) a.args.a a.args.n a.requires.1.1.1.1.0 _ _ c.read_locked.ensures c.if-read_locked.false c.holds_place.ensures c.if-holds_place.false in record {
      bytes = patched_same _ _ _ _ _ _ c.copy.ensures (λ j h. ap (λ (x : Cell). x.byte) (cell j h));
      known = patched_same _ _ _ _ _ _ c.set_all-2.ensures (λ j h. ap (λ (x : Cell). x.mark) (cell j h));
    }
