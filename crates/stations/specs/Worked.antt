-- 02, W-206: one list worked through, by lookup, by a store, and by a store that is cut. Proved in proofs/Worked.
use Rattle.std.specs.Prelude.{ℕ, ◌<◌, ◌≡◌, true, not, List, [], ◌∷◌, ◌++◌, length, replicate}
use Rattle.rules.specs.Words.{every}
use Rattle.stations.specs.Slots.{Shown, shown_in, shown_from, slot_count, data_size, those_from, live_of, slot_of, bytes_of, found, free_slot}
use Rattle.stations.specs.Plans.{refused, writing, storing, looking_up}
use Rattle.stations.specs.Keeping.{after_writes, Storable, may_change}

-- a live slot of the station with these number bytes and data b b ..
abbrev pub slot_with : ℕ → ℕ → ℕ → List ℕ
slot_with high low b = 0x53 ∷ 0x54 ∷ high ∷ low ∷ replicate data_size b

-- its mark cleared
abbrev pub cleared_with : ℕ → ℕ → ℕ → List ℕ
cleared_with high low b = 0x00 ∷ 0x00 ∷ high ∷ low ∷ replicate data_size b

-- 28 bytes, no two alike
abbrev pub data28 : List ℕ
data28 =
    0xA1 ∷ 0xA2 ∷ 0xA3 ∷ 0xA4 ∷ 0xA5 ∷ 0xA6 ∷ 0xA7 ∷ 0xA8 ∷ 0xA9 ∷ 0xAA ∷ 0xAB ∷ 0xAC ∷ 0xAD ∷ 0xAE
    ∷ 0xB1 ∷ 0xB2 ∷ 0xB3 ∷ 0xB4 ∷ 0xB5 ∷ 0xB6 ∷ 0xB7 ∷ 0xB8 ∷ 0xB9 ∷ 0xBA ∷ 0xBB ∷ 0xBC ∷ 0xBD ∷ 0xBE ∷ []

-- slot 0 is dead, 1 and 3 are of station 7, 2 is of station 8, and all behind them are empty
abbrev pub four_bytes : List ℕ
four_bytes = cleared_with 0x00 0x07 0x01 ++ (0x53 ∷ 0x54 ∷ 0x00 ∷ 0x07 ∷ data28) ++ slot_with 0x00 0x08 0x02 ++ slot_with 0x00 0x07 0x03

abbrev pub four : Shown
four = shown_from four_bytes

-- what is stored there, for station 7
abbrev pub news : List ℕ
news = replicate data_size 0x04

pub record FourHold : Type 0 where
  -- "Lookup gives the data of the first live slot of that number"
  pub slot : slot_of four 7 ≡ 1
  pub gives : found four 7 ≡ data28
  pub looks : looking_up four 7 ≡ writing []
  -- "17 exactly if lookup's read shows no such live slot"
  pub no_slot : slot_of four 9 ≡ 2048
  pub no_data : found four 9 ≡ []
  pub seventeen : looking_up four 9 ≡ refused 17
  -- "number and data into the first empty slot, then its mark in a second write, then clears to 00 00 the mark of each other live slot of that number, lowest first"
  pub free : free_slot four ≡ 4
  pub plan : storing four 7 news
      ≡ writing (
      (0x02 ∷ 0x01 ∷ 0x00 ∷ 0x82 ∷ 0x00 ∷ 0x07 ∷ news)
      ∷ (0x02 ∷ 0x01 ∷ 0x00 ∷ 0x80 ∷ 0x53 ∷ 0x54 ∷ [])
      ∷ (0x02 ∷ 0x01 ∷ 0x00 ∷ 0x20 ∷ 0x00 ∷ 0x00 ∷ [])
      ∷ (0x02 ∷ 0x01 ∷ 0x00 ∷ 0x60 ∷ 0x00 ∷ 0x00 ∷ [])
      ∷ [])
  -- "never writes outside 010000 to 01FFFF, and never more than the slots it names": slots 1, 3 and 4, from their first byte to their last
  pub may_change_lem : every (may_change four 7) (0x10020 ∷ 0x1003F ∷ 0x10060 ∷ 0x1007F ∷ 0x10080 ∷ 0x1009F ∷ []) ≡ true
  pub may_not : every (λ a. not (may_change four 7 a)) (0x0FFFF ∷ 0x10000 ∷ 0x1001F ∷ 0x10040 ∷ 0x1005F ∷ 0x100A0 ∷ 0x1FFFF ∷ 0x20000 ∷ 0x20020 ∷ 0x20080 ∷ []) ≡ true
  -- "16 exactly if the read shows no empty slot", where every place reads 00
  pub sixteen : storing (shown_in [] []) 7 news ≡ refused 16

-- ---- with two live slots a cut need not leave old or new data: "lowest first" clears the record that lookup gave before the stale one above it, which then shows

-- after w writes of a store of these bytes for station n, which slots i and k are live of
pub record Stale (v : Shown) (n : ℕ) (bytes : List ℕ) (i k w : ℕ) : Type 0 where
  pub storable : Storable n bytes
  pub long : length bytes ≡ data_size
  pub room : free_slot v < slot_count
  pub lives : those_from (live_of v n) 0 slot_count ≡ i ∷ k ∷ []
  pub old : found v n ≡ bytes_of v i 4 data_size
  pub shows : found (after_writes v n bytes w) n ≡ bytes_of v k 4 data_size
  pub not_old : found (after_writes v n bytes w) n ≡ found v n → ⊥
  pub not_new : found (after_writes v n bytes w) n ≡ bytes → ⊥

-- three of the four writes above
abbrev pub StaleShows : Type 0
StaleShows = Stale four 7 news 1 3 3
