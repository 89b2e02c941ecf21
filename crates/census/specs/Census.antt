-- W-206: the slots of the station list counted, as one read shows them.
use Rattle.std.specs.Prelude.{ℕ, zero, suc, ◌+◌, Bool, not, ◌&&◌, leb}
use Rattle.rules.specs.Words.{num}
use Rattle.stations.specs.Slots.{Shown, slot_count, first_from, empty, live, dead, passed_over_lem}
use Rattle.census.specs.declared.Counts.{Counts}

-- at how many numbers below n a test holds
unfoldable pub count_below : (ℕ → Bool) → ℕ → ℕ
count_below t zero = 0
count_below t (suc n) = count_below t n + num (t n)

-- lookup finds the slot: it is live, and no live one of its number lies below
unfoldable pub found : Shown → ℕ → Bool
found v i = live v i && not (passed_over_lem v i)

-- of the first n slots
unfoldable pub counts_below : Shown → ℕ → Counts
counts_below v n = record { empty = count_below (empty v) n; live = count_below (live v) n; passed = count_below (passed_over_lem v) n; dead = count_below (dead v) n }

-- the first slot below which k are found, 2,048 where fewer are
unfoldable pub cut_after : Shown → ℕ → ℕ
cut_after v k = first_from (λ i. leb k (count_below (found v) i)) 0 slot_count
