-- The clears from slot i on come, from where the chip is now, to what all of them come to from the start. Assumes nothing.
use Prim.Native.Nat.{◌+◌, ◌-◌, ◌*◌, ◌≤◌}
use mathlib.Core.Path.{◌≡◌}
use lib.ListN.{length}
use Rattle.rules.specs.Promises.{bench_of, state_of}
use Rattle.slots.specs.Reads.{shown_of}
use Rattle.stations.specs.Slots.{those_from, live_of}
use Rattle.stations.specs.Plans.{clearings}
use Rattle.stations.specs.Calls.{played, writes}
use Rattle.store.proofs.writes.clear_others.Given as goal

abbrev pub invariant-loop-i : goal.invariant-loop-i
invariant-loop-i l =
    record {
      going : l.at.number ≡ 0;
      turns : l.turn ≤ 2 + l.i;
      few : l.at.polls ≤ (2 + l.i) * 65535;
      same_array : length l.array ≡ length l.initial.array;
      same_security : length l.security ≡ length l.initial.security;
      is : played (state_of (bench_of l.at.chip l.array l.security)) (writes l.allowance l.list l.turn (clearings (those_from (live_of (shown_of l.read) l.station) l.i (2048 - l.i))) l.at.polls)
          ≡ played (state_of (bench_of l.initial.at.chip l.initial.array l.initial.security)) (writes l.allowance l.list 2 (clearings (those_from (live_of (shown_of l.read) l.station) 0 2048)) l.initial.at.polls);
    }
