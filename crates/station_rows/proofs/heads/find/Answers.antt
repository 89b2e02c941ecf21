-- By the number. Assumes nothing.
use Prim.Native.Nat.{ℕ}
use mathlib.Core.Path.{◌≡◌, sym, ◌∙◌}
use borrow.Author.Tests.{eq-eqb}
use Rattle.std.specs.Prelude.{Option, Some, None}
use Rattle.std.specs.Option.{unwrap_or}
use Rattle.stations.specs.Slots.{first_from, live_of, slot_of}
use Rattle.slots.specs.Reads.{shown_of, IsSlot}
use Rattle.station_rows.specs.Stations.{find_head}
use Rattle.station_rows.proofs.heads.find.Goals as goal

slot_or_end : (n : ℕ) (o : Option ℕ) → IsSlot n o → unwrap_or o 2048 ≡ n
slot_or_end n (Some i) h = h.0
slot_or_end n None h = sym h

pub returns-then-number-eq0 : goal.returns-then-number-eq0
unfolding find_head slot_of
returns-then-number-eq0 c =
    let i : c.unwrap_or-i.result ≡ first_from (live_of (shown_of c.args.read.now) c.args.n) 0 2048 = c.unwrap_or-i.ensures ∙ slot_or_end _ _ c.live_from.ensures.slot in
    rw (eq-eqb _ _ c.if-number-eq0.true, ← c.headed-r.ensures, ← i, ← c.form-r.ensures, ← c.printed_bytes-r.ensures) c.form.ensures
