-- A slot passed adds at most one turn and 65,535 polls.
use Prim.Native.Nat.{◌≤◌, ◌+◌, ◌*◌}
use Rattle.second_stations.proofs.clear_others.Given as goal

abbrev pub invariant-loop-slot : goal.invariant-loop-slot
invariant-loop-slot l =
    (l.turn ≤ 2 + l.slot)
    × (l.now.polls ≤ 131070 + 65535 * l.slot)
