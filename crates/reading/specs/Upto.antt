-- A reply that is filled up to a place.
use Rattle.std.specs.Prelude.{ℕ, ◌+◌, ◌%◌, ◌≤◌, ◌<◌, ◌≡◌, List, length, get_or}
use Rattle.rules.specs.declared.Cell.{Cell}
use Rattle.rules.specs.declared.Range.{Range}
use Rattle.rules.specs.Words.{lent}
use Rattle.rules.specs.Blocks.{array_size_lem}
use Rattle.rules.specs.Bursts.{burst_place}
use Rattle.rules.specs.Reading.{place_cell}

-- n bytes, of which the first k are what f says
pub record Upto (l : List ℕ) (n k : ℕ) (f : ℕ → ℕ) : Type 0 where
  pub size : length l ≡ n
  pub at : (i : ℕ) → i < k → get_or l i 0 ≡ f i

-- a range of whole pages in the array: what a suspended range is
pub record Pages (r : Range) : Type 0 where
  pub start_aligned : r.start % 256 ≡ 0
  pub size_aligned : r.size % 256 ≡ 0
  pub inside : r.start + r.size ≤ array_size_lem

-- cell i of a read from a place on
abbrev pub cell_from : ℕ → Range → List ℕ → ℕ → ℕ → Cell
cell_from p r array at i = place_cell p r (lent array) ((at + i) % array_size_lem)

-- cell i of a burst of n bytes from a place on
abbrev pub burst_cell : ℕ → Range → List ℕ → ℕ → ℕ → ℕ → Cell
burst_cell p r array n at i = place_cell p r (lent array) (burst_place n at i)
