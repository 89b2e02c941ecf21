-- What is left of the polls comes, from where the chip is now, to what all of them come to from the start. Assumes nothing.
use Prim.Native.Nat.{◌-◌}
use mathlib.Core.Path.{◌≡◌}
use lib.ListN.{length}
use Rattle.rules.specs.Promises.{bench_of, state_of}
use Rattle.stations.specs.Calls.{ends, played, polling}
use Rattle.store.proofs.writes.poll.Given as goal

abbrev pub invariant-loop-made : goal.invariant-loop-made
invariant-loop-made l =
    (length l.array ≡ length l.initial.array) × (length l.security ≡ length l.initial.security)
    × (played (state_of (bench_of l.at l.array l.security)) (polling (l.allowance - l.made) l.made l.entry l.polls (ends 0))
    ≡ played (state_of (bench_of l.initial.at l.initial.array l.initial.security)) (polling l.allowance 0 l.entry l.polls (ends 0)))
