-- 02, W-201, Burst reads: the four bursts, and the places that a burst read goes through.
use Rattle.std.specs.Prelude.{ℕ, ◌+◌, ◌*◌, ◌/◌, ◌%◌, ◌<◌, ◌≡◌, eqb}
use Rattle.rules.specs.declared.Burst.{Burst}
use Rattle.rules.specs.Words.{pick}

-- "00 to 03 set a burst of 8, 16, 32 or 64 bytes"
abbrev pub burst_byte : Burst → ℕ
burst_byte Burst.Eight = 0x00
burst_byte Burst.Sixteen = 0x01
burst_byte Burst.ThirtyTwo = 0x02
burst_byte Burst.SixtyFour = 0x03

abbrev pub burst_length : Burst → ℕ
burst_length Burst.Eight = 8
burst_length Burst.Sixteen = 16
burst_length Burst.ThirtyTwo = 32
burst_length Burst.SixtyFour = 64

-- the largest byte that sets one
abbrev pub last_burst : ℕ
last_burst = 0x03

-- the burst that a byte sets
abbrev pub burst_of : ℕ → Burst
burst_of x = pick (eqb x 0x00) Burst.Eight (pick (eqb x 0x01) Burst.Sixteen (pick (eqb x 0x02) Burst.ThirtyTwo Burst.SixtyFour))

-- the naturally aligned group of n places that holds the place a begins here
abbrev pub group_start : ℕ → ℕ → ℕ
group_start n a = a / n * n

-- place i of a burst of n bytes: it starts at the address a given and wraps within its group
unfoldable pub burst_place : ℕ → ℕ → ℕ → ℕ
burst_place n a i = group_start n a + (a % n + i) % n

-- what the four lengths have in common: a page holds a whole number of such groups
pub record Divides (n : ℕ) : Type 0 where
  pub some : 0 < n
  pub page : 256 / n * n ≡ 256
