-- A slot is live, empty, of a station and has its data by its own 32 bytes, so lists that agree on them agree on it, and on lookups. Assumes nothing.
use Prim.Native.Nat.{ℕ, zero, suc, ◌+◌, ◌*◌, ◌≤◌, ◌<◌}
use mathlib.Core.Path.{◌≡◌, refl, sym, ap, ap₂, ◌∙◌}
use mathlib.Core.Bool.{Bool, true, false, ◌&&◌, true≢false}
use mathlib.Core.List.{List, [], ◌∷◌}
use native.Mathlib.Omega.{arith}
use lib.Dec.{eqb, ltb}
use lib.ListN.{length, get_or}
use borrow.Author.Tests.{ltb-true, ltb-false, eqb-true, eq-eqb, lt-ltb, le-ltb}
use Rattle.rules.specs.declared.Cell.{Cell}
use Rattle.rules.proofs.Bools.{and_split, and_both, never}
use Rattle.stations.specs.Slots.{Shown, slot_count, data_size, byte_of, empty, live, station, live_of, slot_of, bytes_of, found, free_slot}
use Rattle.stations.proofs.First.{FirstIs, first_is, first_one, first_some, first_same, all_at}

-- ---- tests

pub and_no_left : (a b : Bool) → a ≡ false → (a && b) ≡ false
and_no_left true b e = absurd (true≢false e)
and_no_left false b e = refl

pub and_no_right : (a b : Bool) → b ≡ false → (a && b) ≡ false
and_no_right true b e = e
and_no_right false b e = refl

-- ---- slots on which two lists agree, from byte lo on

unfoldable pub SameFrom : ℕ → Shown → Shown → ℕ → Type 0
SameFrom lo v w i = (j : ℕ) → lo ≤ j → j < 32 → v (i * 32 + j) ≡ w (i * 32 + j)

pub same_byte : (lo : ℕ) (v w : Shown) (i j : ℕ) → SameFrom lo v w i → lo ≤ j → j < 32 → byte_of v i j ≡ byte_of w i j
unfolding SameFrom byte_of
same_byte lo v w i j s a b = ap (λ (c : Cell). c.byte) (s j a b)

pub same_tail : (v w : Shown) (i : ℕ) → SameFrom 0 v w i → SameFrom 2 v w i
unfolding SameFrom
same_tail v w i s j a b = s j (omega arith) b

pub same_station : (v w : Shown) (i : ℕ) → SameFrom 2 v w i → station v i ≡ station w i
unfolding station
same_station v w i s = ap₂ (λ (a b : ℕ). a * 256 + b) (same_byte 2 v w i 2 s (omega arith) (omega arith)) (same_byte 2 v w i 3 s (omega arith) (omega arith))

pub same_live : (v w : Shown) (i : ℕ) → SameFrom 0 v w i → live v i ≡ live w i
unfolding live
same_live v w i s =
    ap₂ (λ (a b : ℕ). eqb a 0x53 && eqb b 0x54) (same_byte 0 v w i 0 s (omega arith) (omega arith)) (same_byte 0 v w i 1 s (omega arith) (omega arith))

pub same_live_of : (v w : Shown) (n i : ℕ) → SameFrom 0 v w i → live_of v n i ≡ live_of w n i
unfolding live_of
same_live_of v w n i s = ap₂ (λ (a : Bool) (b : ℕ). a && eqb b n) (same_live v w i s) (same_station v w i (same_tail v w i s))

-- ---- classes

pub live_marks : (v : Shown) (i : ℕ) → live v i ≡ true → (byte_of v i 0 ≡ 0x53) × (byte_of v i 1 ≡ 0x54)
unfolding live
live_marks v i e =
    let p = and_split (eqb (byte_of v i 0) 0x53) (eqb (byte_of v i 1) 0x54) e in
    (eqb-true (byte_of v i 0) 0x53 p.0, eqb-true (byte_of v i 1) 0x54 p.1)

pub marks_live : (v : Shown) (i : ℕ) → byte_of v i 0 ≡ 0x53 → byte_of v i 1 ≡ 0x54 → live v i ≡ true
unfolding live
marks_live v i a b = and_both (eq-eqb (byte_of v i 0) 0x53 a) (eq-eqb (byte_of v i 1) 0x54 b)

-- a first byte other than 53
pub no_mark : (v : Shown) (i b : ℕ) → byte_of v i 0 ≡ b → (b ≡ 0x53 → ⊥) → live v i ≡ false
no_mark v i b e ne = never (live v i) (λ h. ne (sym e ∙ (live_marks v i h).0))

pub empty_blank : (v : Shown) (i : ℕ) → empty v i ≡ true → (j : ℕ) → j < 32 → byte_of v i j ≡ 0xFF
unfolding empty
empty_blank v i e j l = eqb-true (byte_of v i j) 0xFF (all_at 32 (λ j. eqb (byte_of v i j) 0xFF) e j l)

pub empty_not_live : (v : Shown) (i : ℕ) → empty v i ≡ true → live v i ≡ false
empty_not_live v i e = no_mark v i 0xFF (empty_blank v i e 0 (omega arith)) (λ h. omega arith)

pub live_of_split : (v : Shown) (n i : ℕ) → live_of v n i ≡ true → (live v i ≡ true) × (station v i ≡ n)
unfolding live_of
live_of_split v n i e = let p = and_split (live v i) (eqb (station v i) n) e in (p.0, eqb-true (station v i) n p.1)

pub live_of_both : (v : Shown) (n i : ℕ) → live v i ≡ true → station v i ≡ n → live_of v n i ≡ true
unfolding live_of
live_of_both v n i a b = and_both a (eq-eqb (station v i) n b)

pub not_live_of : (v : Shown) (n i : ℕ) → live v i ≡ false → live_of v n i ≡ false
unfolding live_of
not_live_of v n i e = and_no_left (live v i) (eqb (station v i) n) e

pub other_station : (v : Shown) (n i : ℕ) → (station v i ≡ n → ⊥) → live_of v n i ≡ false
other_station v n i ne = never (live_of v n i) (λ h. ne (live_of_split v n i h).1)

-- ---- data

pub bytes_same : (v w : Shown) (i k j n : ℕ) → ((d : ℕ) → j ≤ d → d < j + n → byte_of v i d ≡ byte_of w k d) → bytes_of v i j n ≡ bytes_of w k j n
unfolding bytes_of
bytes_same v w i k j zero h = refl
bytes_same v w i k j (suc n) h =
    ap₂ (λ (b : ℕ) (l : List ℕ). b ∷ l) (h j (omega arith) (omega arith)) (bytes_same v w i k (suc j) n (λ d a b. h d (omega arith) (omega arith)))

pub bytes_are : (v : Shown) (i j n : ℕ) (l : List ℕ) → length l ≡ n → ((d : ℕ) → d < n → byte_of v i (j + d) ≡ get_or l d 0) → bytes_of v i j n ≡ l
unfolding bytes_of
bytes_are v i j zero [] e h = refl
bytes_are v i j zero (x ∷ xs) e h = absurd (omega arith)
bytes_are v i j (suc n) [] e h = absurd (omega arith)
bytes_are v i j (suc n) (x ∷ xs) e h =
    let z : j ≡ j + 0 = omega arith in
    ap₂ (λ (b : ℕ) (l : List ℕ). b ∷ l) (ap (byte_of v i) z ∙ h 0 (omega arith))
    (bytes_are v i (suc j) n xs (omega arith) (λ d l. let y : suc j + d ≡ j + suc d = omega arith in ap (byte_of v i) y ∙ h (suc d) (omega arith)))

pub same_data : (v w : Shown) (i : ℕ) → SameFrom 2 v w i → bytes_of v i 4 data_size ≡ bytes_of w i 4 data_size
same_data v w i s = bytes_same v w i i 4 28 (λ d a b. same_byte 2 v w i d s (omega arith) (omega arith))

-- ---- lookups

pub slot_is : (v : Shown) (n : ℕ) → FirstIs (live_of v n) 0 slot_count (slot_of v n)
unfolding slot_of
slot_is v n = first_is (live_of v n) 0 slot_count

pub slot_one : (v : Shown) (n i : ℕ) → i < slot_count → live_of v n i ≡ true → ((y : ℕ) → y < i → live_of v n y ≡ false) → slot_of v n ≡ i
unfolding slot_of
slot_one v n i h e none = first_one (live_of v n) slot_count i h e none

pub slot_some : (v : Shown) (n i : ℕ) → i < slot_count → live_of v n i ≡ true → slot_of v n < slot_count
unfolding slot_of
slot_some v n i h e = first_some (live_of v n) slot_count i h e

pub free_empty : (v : Shown) → free_slot v < slot_count → empty v (free_slot v) ≡ true
unfolding free_slot
free_empty v h = (first_is (empty v) 0 slot_count).hit h

pub found_at : (v : Shown) (n i : ℕ) → slot_of v n ≡ i → i < slot_count → found v n ≡ bytes_of v i 4 data_size
unfolding found
found_at v n i e h = rw (e, lt-ltb i slot_count h)

pub found_none : (v : Shown) (n : ℕ) → slot_count ≤ slot_of v n → found v n ≡ []
unfolding found
found_none v n h = rw (le-ltb (slot_of v n) slot_count h)

-- the same slots are live of the number
pub slot_same : (v w : Shown) (n : ℕ) → ((i : ℕ) → i < slot_count → live_of w n i ≡ live_of v n i) → slot_of w n ≡ slot_of v n
unfolding slot_of
slot_same v w n h = first_same (live_of w n) (live_of v n) 0 slot_count (λ i a b. h i b)

-- with the same data
pub found_same : (v w : Shown) (n : ℕ) → ((i : ℕ) → i < slot_count → live_of w n i ≡ live_of v n i) → ((i : ℕ) → i < slot_count → live_of v n i ≡ true → SameFrom 2 v w i)
    → found w n ≡ found v n
found_same v w n h same = go (ltb (slot_of v n) slot_count) refl
  where
    slots : slot_of w n ≡ slot_of v n
    slots = slot_same v w n h

    go : (b : Bool) → ltb (slot_of v n) slot_count ≡ b → found w n ≡ found v n
    go true e =
        let l = ltb-true (slot_of v n) slot_count e in
        found_at w n (slot_of v n) slots l ∙ sym (same_data v w (slot_of v n) (same (slot_of v n) l ((slot_is v n).hit l))) ∙ sym (found_at v n (slot_of v n) refl l)
    go false e = let l = ltb-false (slot_of v n) slot_count e in found_none w n (omega (arith, slots)) ∙ sym (found_none v n l)

-- ---- lists that agree on every place

pub alike_slot : (v w : Shown) → ((p : ℕ) → p < 65536 → v p ≡ w p) → (i : ℕ) → i < slot_count → SameFrom 0 v w i
unfolding SameFrom
alike_slot v w h i l j a b = h (i * 32 + j) (omega arith)

pub alike_slot_of : (v w : Shown) (n : ℕ) → ((p : ℕ) → p < 65536 → v p ≡ w p) → slot_of w n ≡ slot_of v n
alike_slot_of v w n h = slot_same v w n (λ i l. sym (same_live_of v w n i (alike_slot v w h i l)))

pub alike_found : (v w : Shown) (n : ℕ) → ((p : ℕ) → p < 65536 → v p ≡ w p) → found w n ≡ found v n
alike_found v w n h =
    found_same v w n (λ i l. sym (same_live_of v w n i (alike_slot v w h i l))) (λ i l e. same_tail v w i (alike_slot v w h i l))
