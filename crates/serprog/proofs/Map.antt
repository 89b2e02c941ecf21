-- The command map and the table of commands say the same. Assumes nothing.
use Prim.Native.Nat.{ℕ, ◌/◌, ◌%◌, ◌<◌}
use mathlib.Core.Path.{◌≡◌, refl, sym}
use mathlib.Core.Bool.{Bool, true, false, not, ◌&&◌, ◌||◌}
use mathlib.Core.List.{List, [], ◌∷◌}
use lib.ListN.{length, get_or}
use Rattle.rules.specs.Words.{bit, pick, every}
use Rattle.rules.proofs.Bools.{and_split, upto, upto_at}
use Rattle.serprog.specs.declared.Command.{Command}
use Rattle.serprog.specs.Commands.{Row, rows, find, shape_of, has_row, map_byte, map_from, map_bytes}
use lib.Dec.{eqb}

pub map_size : length map_bytes ≡ 32
unfolding map_bytes map_from
map_size = refl

-- ---- bit i of the map is set exactly where code i has a row

alike : Bool → Bool → Bool
alike a b = a && b || not a && not b

alike_same : (a b : Bool) → alike a b ≡ true → a ≡ b
unfolding alike
alike_same true true e = refl
alike_same true false e = sym e
alike_same false true e = e
alike_same false false e = refl

bit_right : ℕ → Bool
bit_right i = alike (bit (i % 8) (get_or map_bytes (i / 8) 0)) (has_row rows i)

each_bit : upto 256 bit_right ≡ true
unfolding bit_right alike bit has_row rows map_bytes map_from map_byte
each_bit = refl

pub map_bit : (i : ℕ) → i < 256 → bit (i % 8) (get_or map_bytes (i / 8) 0) ≡ has_row rows i
unfolding bit_right
map_bit i h = alike_same _ _ (upto_at 256 bit_right each_bit i h)

-- ---- a code that has a row is a command, and no other is

abbrev pub is_unlisted : Command → Bool
is_unlisted Command.Nothing = false
is_unlisted Command.Version = false
is_unlisted Command.Map = false
is_unlisted Command.Name = false
is_unlisted Command.BufferSize = false
is_unlisted Command.Buses = false
is_unlisted Command.Sync = false
is_unlisted Command.SetBus = false
is_unlisted Command.Operation = false
is_unlisted Command.SetFrequency = false
is_unlisted Command.SetPins = false
is_unlisted Command.Unlisted = true

found : (o : ℕ) (rs : List Row) → every (λ r. not (is_unlisted r.shape.command)) rs ≡ true → not (is_unlisted (find rs o).command) ≡ has_row rs o
unfolding find has_row
found o [] e = refl
found o (r ∷ rs) e = go (eqb o r.code) (found o rs h.1)
  where
    h : (not (is_unlisted r.shape.command) ≡ true) × (every (λ r. not (is_unlisted r.shape.command)) rs ≡ true)
    h = and_split (not (is_unlisted r.shape.command)) (every (λ r. not (is_unlisted r.shape.command)) rs) e

    go : (b : Bool) → not (is_unlisted (find rs o).command) ≡ has_row rs o → not (is_unlisted (pick b r.shape (find rs o)).command) ≡ pick b true (has_row rs o)
    go true later = h.0
    go false later = later

pub listed_known : (o : ℕ) → not (is_unlisted (shape_of o).command) ≡ has_row rows o
unfolding shape_of rows
listed_known o = found o rows refl
