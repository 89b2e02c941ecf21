-- One list worked through: its first four slots are computed, all behind them are empty, and so the laws of first and of lowest first give the rest. Assumes nothing.
use Prim.Native.Nat.{ℕ, zero, suc, ◌+◌, ◌-◌, ◌*◌, ◌/◌, ◌≤◌, ◌<◌}
use mathlib.Core.Path.{◌≡◌, refl, sym, ap, ◌∙◌}
use mathlib.Core.Bool.{Bool, true, false, not, ◌&&◌, ◌||◌}
use mathlib.Core.List.{List, [], ◌∷◌}
use native.Mathlib.Omega.{arith}
use lib.ListN.{get_or, replicate, get_or-eq_default}
use lib.Dec.{eqb, ltb}
use Rattle.rules.specs.Words.{pick, every, Each, end, ◌next◌, range, holds}
use Rattle.stations.specs.Slots.{shown_in, slot_size, slot_count, data_size, all_below, those_from, byte_of, empty, live, station, live_of, slot_of, bytes_of, found, free_slot}
use Rattle.stations.specs.Plans.{refused, writing, record_frame, mark_frame, clearings, storing_at, storing, looking_up}
use Rattle.stations.specs.Keeping.{list_start, Storable, next_live_lem, after_writes, may_change}
use Rattle.stations.specs.Calls.{list_size}
use Rattle.stations.specs.Worked.{data28, four_bytes, four, news, FourHold, StaleShows}
use Rattle.stations.proofs.First.{first_one, first_none, those_hit, those_miss, those_none}
use Rattle.stations.proofs.Same.{no_mark, not_live_of, slot_one, found_at, found_none}
use Rattle.stations.proofs.Lookups.{after_itself}

-- ---- the slots of the list

-- the first four, and all behind them
four_or_more : {P : ℕ → Type 0} → P 0 → P 1 → P 2 → P 3 → ((y : ℕ) → 4 ≤ y → P y) → (y : ℕ) → P y
four_or_more a b c d e zero = a
four_or_more a b c d e (suc zero) = b
four_or_more a b c d e (suc (suc zero)) = c
four_or_more a b c d e (suc (suc (suc zero))) = d
four_or_more a b c d e (suc (suc (suc (suc y)))) = e (suc (suc (suc (suc y)))) (omega arith)

live_more : (n y : ℕ) → 4 ≤ y → live_of four n y ≡ false
unfolding byte_of
live_more n y h = not_live_of four n y (no_mark four y 0xFF (get_or-eq_default four_bytes 0xFF {n = y * 32 + 0} (omega arith)) (λ z. omega arith))

empty_at : (y : ℕ) → y < 4 → empty four y ≡ false
unfolding empty all_below byte_of
empty_at = four_or_more (λ h. refl) (λ h. refl) (λ h. refl) (λ h. refl) (λ y m h. absurd (omega arith))

empty_four : empty four 4 ≡ true
unfolding empty all_below byte_of
empty_four = refl

free : free_slot four ≡ 4
unfolding free_slot
free = first_one (empty four) slot_count 4 (omega arith) empty_four empty_at

-- live of station 7, and of station 9
sevens : (live_of four 7 0 ≡ false) × (live_of four 7 1 ≡ true) × (live_of four 7 2 ≡ false) × (live_of four 7 3 ≡ true)
unfolding live_of live station byte_of
sevens = (refl, refl, refl, refl)

nines : (y : ℕ) → live_of four 9 y ≡ false
unfolding live_of live station byte_of
nines = four_or_more refl refl refl refl (live_more 9)

lives : those_from (live_of four 7) 0 slot_count ≡ 1 ∷ 3 ∷ []
lives =
    those_miss (live_of four 7) 0 2047 sevens.0 ∙ those_hit (live_of four 7) 1 2046 sevens.1
    ∙ ap (λ (l : List ℕ). 1 ∷ l)
    (those_miss (live_of four 7) 2 2045 sevens.2 ∙ those_hit (live_of four 7) 3 2044 sevens.3
    ∙ ap (λ (l : List ℕ). 3 ∷ l) (those_none (live_of four 7) 4 2044 (λ y a b. live_more 7 y a)))

slot : slot_of four 7 ≡ 1
slot = slot_one four 7 1 (omega arith) sevens.1 (λ y h. let z : y ≡ 0 = omega arith in ap (live_of four 7) z ∙ sevens.0)

no_slot : slot_of four 9 ≡ 2048
unfolding slot_of
no_slot = first_none (live_of four 9) 0 2048 (λ y a b. nines y)

data_at : (bytes_of four 1 4 data_size ≡ data28) × (get_or (bytes_of four 3 4 data_size) 0 0 ≡ 0x03)
unfolding bytes_of byte_of
data_at = (refl, refl)

-- ---- lookup and store

-- no slot of a list that reads 00 is empty
none_empty : (y : ℕ) → empty (shown_in [] []) y ≡ false
unfolding empty all_below byte_of
none_empty y = refl

none_free : free_slot (shown_in [] []) ≡ 2048
unfolding free_slot
none_free = first_none (empty (shown_in [] [])) 0 2048 (λ y a b. none_empty y)

looking : (n i : ℕ) → slot_of four n ≡ i → looking_up four n ≡ pick (ltb i slot_count) (writing []) (refused 17)
unfolding looking_up
looking n i e = ap (λ (i : ℕ). pick (ltb i slot_count) (writing []) (refused 17)) e

store_full : storing (shown_in [] []) 7 news ≡ refused 16
unfolding storing
store_full = ap (λ (i : ℕ). pick (ltb i slot_count) (writing (storing_at (shown_in [] []) 7 news (free_slot (shown_in [] [])))) (refused 16)) none_free

plan : storing four 7 news
    ≡ writing (
    (0x02 ∷ 0x01 ∷ 0x00 ∷ 0x82 ∷ 0x00 ∷ 0x07 ∷ news)
    ∷ (0x02 ∷ 0x01 ∷ 0x00 ∷ 0x80 ∷ 0x53 ∷ 0x54 ∷ [])
    ∷ (0x02 ∷ 0x01 ∷ 0x00 ∷ 0x20 ∷ 0x00 ∷ 0x00 ∷ [])
    ∷ (0x02 ∷ 0x01 ∷ 0x00 ∷ 0x60 ∷ 0x00 ∷ 0x00 ∷ [])
    ∷ [])
unfolding storing clearings
plan = λ i. pick (ltb (free i) slot_count) (writing (record_frame (free i) 7 news ∷ mark_frame (free i) 0x53 0x54 ∷ clearings (lives i))) (refused 16)

-- the slots that a store names, by the first empty one
changes : ℕ → ℕ → Bool
changes f a = holds (range list_start list_size) a && (eqb ((a - list_start) / slot_size) f || live_of four 7 ((a - list_start) / slot_size))

may_change_lem : every (may_change four 7) (0x10020 ∷ 0x1003F ∷ 0x10060 ∷ 0x1007F ∷ 0x10080 ∷ 0x1009F ∷ []) ≡ true
unfolding changes holds live_of live station byte_of
may_change_lem = ap (λ (f : ℕ). every (changes f) (0x10020 ∷ 0x1003F ∷ 0x10060 ∷ 0x1007F ∷ 0x10080 ∷ 0x1009F ∷ [])) free

may_not : every (λ a. not (may_change four 7 a)) (0x0FFFF ∷ 0x10000 ∷ 0x1001F ∷ 0x10040 ∷ 0x1005F ∷ 0x100A0 ∷ 0x1FFFF ∷ 0x20000 ∷ 0x20020 ∷ 0x20080 ∷ []) ≡ true
unfolding changes holds live_of live station byte_of
may_not = ap (λ (f : ℕ). every (λ a. not (changes f a)) (0x0FFFF ∷ 0x10000 ∷ 0x1001F ∷ 0x10040 ∷ 0x1005F ∷ 0x100A0 ∷ 0x1FFFF ∷ 0x20000 ∷ 0x20020 ∷ 0x20080 ∷ [])) free

pub four_hold : FourHold
four_hold =
    record {
      slot = slot;
      gives = found_at four 7 1 slot (omega arith) ∙ data_at.0;
      looks = looking 7 1 slot;
      no_slot = no_slot;
      no_data = found_none four 9 (omega (arith, no_slot));
      seventeen = looking 9 2048 no_slot;
      free = free;
      plan = plan;
      may_change_lem = may_change_lem;
      may_not = may_not;
      sixteen = store_full;
    }

-- ---- the stale record

each_of : (k b : ℕ) → b < 256 → Each (λ (x : ℕ). x < 256) (replicate k b)
each_of zero b h = end
each_of (suc k) b h = h next each_of k b h

storable : Storable 7 news
storable = record { number = omega arith; each = each_of data_size 0x04 (omega arith) }

room : free_slot four < slot_count
room = omega (arith, free)

shows : found (after_writes four 7 news 3) 7 ≡ bytes_of four 3 4 data_size
shows =
    after_itself four 7 news room storable refl 3 (omega arith)
    ∙ (λ i. pick (ltb (free i) (second i)) news (bytes_of four (second i) 4 data_size))
  where
    second : next_live_lem four 7 3 ≡ 3
    second = ap (λ (l : List ℕ). get_or l 1 slot_count) lives

pub stale_shows : StaleShows
stale_shows =
    record {
      storable = storable;
      long = refl;
      room = room;
      lives = lives;
      old = found_at four 7 1 slot (omega arith);
      shows = shows;
      not_old = λ e. let z = ap (λ (l : List ℕ). get_or l 0 0) (sym shows ∙ e ∙ found_at four 7 1 slot (omega arith) ∙ data_at.0) in omega (arith, data_at.1);
      not_new = λ e. let z = ap (λ (l : List ℕ). get_or l 0 0) (sym shows ∙ e) in omega (arith, data_at.1);
    }
