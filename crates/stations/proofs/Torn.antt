-- A frame of a store under way: whatever is done of it, only the bytes that it sends differ from the list after the frames before it, so a cut there leaves a list in the middle of the
-- store; and no frame, done or stopped, reaches a byte outside the slots that the store names. Assumes nothing.
use Prim.Native.Nat.{ℕ, zero, suc, ◌+◌, ◌-◌, ◌*◌, ◌/◌, ◌%◌, ◌≤◌, ◌<◌}
use mathlib.Core.Path.{◌≡◌, refl, sym, ap, ◌∙◌, subst}
use mathlib.Core.Bool.{Bool, true, false, true≢false}
use mathlib.Core.List.{List, [], ◌∷◌}
use mathlib.Core.Logic.{◌⊎◌, inl, inr}
use native.Mathlib.Omega.{arith}
use lib.Dec.{eqb, ltb}
use lib.ListN.{length, get_or, take}
use borrow.Author.Tests.{ltb-true, ltb-false, eq-eqb}
use Rattle.rules.specs.declared.Range.{Range}
use Rattle.rules.specs.declared.Tear.{Tear}
use Rattle.rules.specs.Words.{one_of, range, Lent, Each, end, ◌next◌}
use Rattle.rules.specs.Works.{all}
use Rattle.rules.specs.Tears.{OfBytes}
use Rattle.rules.proofs.Bools.{and_both, or_left, or_right}
use Rattle.rules.proofs.Blocks.{holds_intro}
use Rattle.stations.specs.Slots.{Shown, slot_count, data_size, live_of, found, free_slot}
use Rattle.stations.specs.Plans.{program_at, clearings, storing_at}
use Rattle.stations.specs.Keeping.{Storable, OneOfItsOwn, named, may_change}
use Rattle.stations.proofs.First.{one_of_place}
use Rattle.stations.proofs.Midway.{lives_of, lives_in, in_frame, Underway, Midway, midway, turned}
use Rattle.stations.proofs.Lookups.{midway_others, midway_own}
use Rattle.stations.proofs.Programmed.{stopped_by, programmed, programmed_all, stopped_bytes, program_miss}
use Rattle.stations.proofs.Shown.{list_of, list_same, list_locks}
use Rattle.stations.proofs.Clears.{Below, below_first, below_rest, clear_miss_one, clearing_at, length_clearings}
use Rattle.stations.proofs.Stored.{record_miss, mark_miss, stored_slot}

pub programmed_bytes : (fs : List (List ℕ)) (mem : Lent) → OfBytes mem → OfBytes (programmed_all fs mem)
programmed_bytes [] mem small = small
programmed_bytes (f ∷ fs) mem small = programmed_bytes fs (programmed f mem) (stopped_bytes all f mem small)

each_at : {A : Type 0} {P : A → Type 0} {l : List A} (d : A) → Each P l → (q : ℕ) → q < length l → P (get_or l q d)
each_at d end q h = absurd (omega arith)
each_at d (p next r) zero h = p
each_at d (p next r) (suc q) h = each_at d r q (omega arith)

-- ---- frames that spare a byte

abbrev pub Spares : ℕ → List ℕ → Type 0
Spares a f = (t : Tear) (l : Lent) → OfBytes l → (stopped_by t f l).byte a ≡ l.byte a

pub spared : (a : ℕ) (fs : List (List ℕ)) → Each (Spares a) fs → (w : ℕ) (mem : Lent) → OfBytes mem → (programmed_all (take w fs) mem).byte a ≡ mem.byte a
spared a [] end zero mem small = refl
spared a [] end (suc w) mem small = refl
spared a (f ∷ fs) (p next r) zero mem small = refl
spared a (f ∷ fs) (p next r) (suc w) mem small = spared a fs r w (programmed f mem) (stopped_bytes all f mem small) ∙ p all mem small

module _ (v : Shown) (n a : ℕ) (out : may_change v n a ≡ false) where
  slot_spares : (i lo p : ℕ) → p ≡ i * 32 + lo → (ds : List ℕ) → i < slot_count → lo < 32 → lo + length ds ≤ 32 → named v n i ≡ true → Spares a (program_at p ds)
  slot_spares i lo p at ds few low fits e t l small = program_miss i lo p at ds few low fits t l small a (go (ltb a (0x10000 + p)) (ltb a (0x10000 + p + length ds)) refl refl)
    where
      inside : 0x10000 + p ≤ a → a < 0x10000 + p + length ds → may_change v n a ≡ true
      inside x y =
          let z : (a - 0x10000) / 32 ≡ i = omega arith in
          and_both (holds_intro (range 0x10000 65536) a (omega arith) (omega arith)) (ap (named v n) z ∙ e)

      go : (b c : Bool) → ltb a (0x10000 + p) ≡ b → ltb a (0x10000 + p + length ds) ≡ c → (a < 0x10000 + p) ⊎ (0x10000 + p + length ds ≤ a)
      go true c f g = inl (ltb-true a (0x10000 + p) f)
      go false false f g = inr (ltb-false a (0x10000 + p + length ds) g)
      go false true f g = absurd (true≢false (sym (inside (ltb-false a (0x10000 + p) f) (ltb-true a (0x10000 + p + length ds) g)) ∙ out))

  clears_spare : (is : List ℕ) → Below is → ((k : ℕ) → one_of k is ≡ true → live_of v n k ≡ true) → Each (Spares a) (clearings is)
  unfolding clearings
  clears_spare [] b e = end
  clears_spare (c ∷ is) b e =
      slot_spares c 0 (c * 32) (omega arith) (0x00 ∷ 0x00 ∷ []) (below_first c is b) (omega arith) (omega arith)
      (or_right (eqb c (free_slot v)) (live_of v n c) (e c (or_left (eqb c c) (one_of c is) (eq-eqb c c refl))))
      next clears_spare is (below_rest c is b) (λ k h. e k (or_right (eqb k c) (one_of k is) h))

  -- those of a store, outside the slots that it names
  pub store_spares : (bytes : List ℕ) → length bytes ≡ data_size → free_slot v < slot_count → Each (Spares a) (storing_at v n bytes (free_slot v))
  store_spares bytes long room =
      slot_spares (free_slot v) 2 (free_slot v * 32 + 2) refl (n / 256 % 256 ∷ n % 256 ∷ bytes) room (omega arith) (omega arith) new
      next slot_spares (free_slot v) 0 (free_slot v * 32) (omega arith) (0x53 ∷ 0x54 ∷ []) room (omega arith) (omega arith) new
      next clears_spare (lives_of v n) (λ k e. (lives k e).0) (λ k e. (lives k e).1)
    where
      new : named v n (free_slot v) ≡ true
      new = or_left (eqb (free_slot v) (free_slot v)) (live_of v n (free_slot v)) (eq-eqb (free_slot v) (free_slot v) refl)

      lives : (k : ℕ) → one_of k (lives_of v n) ≡ true → (k < slot_count) × (live_of v n k ≡ true)
      lives k e =
          let p = one_of_place k (lives_of v n) slot_count e in
          subst (λ (y : ℕ). (y < slot_count) × (live_of v n y ≡ true)) p.is (lives_in v n p.at p.inside)

-- ---- the frame under way

pub frame_count : (v : Shown) (n : ℕ) (bytes : List ℕ) (i : ℕ) → length (storing_at v n bytes i) ≡ 2 + length (lives_of v n)
frame_count v n bytes i = let e = length_clearings (lives_of v n) in omega arith

module _ (protection : ℕ) (r : Range) (mem : Lent) (small : OfBytes mem) (n : ℕ) (bytes : List ℕ) (long : length bytes ≡ data_size)
    (room : free_slot (list_of protection r mem) < slot_count) where
  abbrev v : Shown
  v = list_of protection r mem

  abbrev fs : List (List ℕ)
  fs = storing_at v n bytes (free_slot v)

  -- outside the named slots: after the first w frames, and while frame q is under way
  pub stored_stays : (w a : ℕ) → may_change v n a ≡ false → (programmed_all (take w fs) mem).byte a ≡ mem.byte a
  stored_stays w a out = spared a fs (store_spares v n a out bytes long room) w mem small

  pub torn_stays : (q a : ℕ) → q < length fs → may_change v n a ≡ false → (t : Tear) → (stopped_by t (get_or fs q []) (programmed_all (take q fs) mem)).byte a ≡ mem.byte a
  torn_stays q a h out t =
      each_at [] (store_spares v n a out bytes long room) q h t (programmed_all (take q fs) mem) (programmed_bytes (take q fs) mem small) ∙ stored_stays q a out

  -- it changes only bytes that it sends
  frame_miss : (q : ℕ) → q < 2 + length (lives_of v n) → (t : Tear) (l : Lent) → OfBytes l → (i j : ℕ) → j < 32 → in_frame v n q i j ≡ false
      → (stopped_by t (get_or fs q []) l).byte (0x10000 + (i * 32 + j)) ≡ l.byte (0x10000 + (i * 32 + j))
  unfolding in_frame
  frame_miss zero h t l s i j b e = record_miss protection r mem small n bytes long room t l s i j b e
  frame_miss (suc zero) h t l s i j b e = mark_miss protection r mem small n bytes long room t l s i j b e
  frame_miss (suc (suc k)) h t l s i j b e =
      let g : k < length (lives_of v n) = omega arith in
      ap (λ (f : List ℕ). (stopped_by t f l).byte (0x10000 + (i * 32 + j))) (clearing_at (lives_of v n) k slot_count g)
      ∙ clear_miss_one (get_or (lives_of v n) k slot_count) (lives_in v n k g).0 t l s i j b e

  module _ (right : Storable n bytes) (q : ℕ) (h : q < length fs) (t : Tear) (locks : ℕ) where
    abbrev cut : Shown
    cut = list_of locks r (stopped_by t (get_or fs q []) (programmed_all (take q fs) mem))

    below : q < 2 + length (lives_of v n)
    below = let e = frame_count v n bytes (free_slot v) in omega arith

    -- the list then, with nothing else suspended than before
    pub torn_underway : Underway v n bytes q (list_of locks r (stopped_by t (get_or fs q []) (programmed_all (take q fs) mem)))
    unfolding Underway
    torn_underway i j a b e =
        list_same locks r (programmed_all (take q fs) mem) (stopped_by t (get_or fs q []) (programmed_all (take q fs) mem)) (i * 32 + j) (omega arith)
        (frame_miss q below t (programmed_all (take q fs) mem) (programmed_bytes (take q fs) mem small) i j b e)
        ∙ list_locks locks protection r (programmed_all (take q fs) mem) (i * 32 + j) (omega arith)
        ∙ stored_slot protection r mem small n bytes long room right q i j a b

    torn_midway : Midway v n bytes cut
    torn_midway = midway v n room bytes right long q cut torn_underway

    pub torn_others : (k : ℕ) → (k ≡ n → ⊥) → found (list_of locks r (stopped_by t (get_or fs q []) (programmed_all (take q fs) mem))) k ≡ found v k
    torn_others k ne = midway_others v n bytes room cut torn_midway k ne

    pub torn_own : OneOfItsOwn v (list_of locks r (stopped_by t (get_or fs q []) (programmed_all (take q fs) mem))) n bytes
    torn_own = midway_own v n bytes room cut torn_midway (turned v n room bytes right long q cut torn_underway below)
