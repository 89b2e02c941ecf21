-- The writes of a store on memory: the first empty slot shows FF, so number, data and mark come out as sent; cleared marks come out 00; no other byte changes, and none outside the slots
-- that the store names. Slots in a suspended range show 00, are neither empty nor live, and get no write. Assumes nothing.
use Prim.Native.Nat.{ℕ, zero, suc, ◌+◌, ◌-◌, ◌*◌, ◌/◌, ◌%◌, ◌≤◌, ◌<◌}
use mathlib.Core.Path.{◌≡◌, refl, sym, ap, ap₂, ◌∙◌, subst}
use mathlib.Core.Bool.{Bool, true, false, ◌&&◌, true≢false}
use mathlib.Core.List.{List, [], ◌∷◌}
use mathlib.Core.Logic.{inl, inr}
use native.Mathlib.Omega.{arith}
use native.Mathlib.Decide.{ℕ_discrete}
use lib.Dec.{eqb, ltb, leb}
use lib.ListN.{length, get_or, take}
use lib.Bits.{bit_and, and_comm}
use borrow.Author.Tests.{ltb-true, ltb-false, eq-eqb, ne_eqb, le-ltb, le-leb, lt-leb}
use Rattle.rules.specs.declared.Range.{Range}
use Rattle.rules.specs.declared.Tear.{Tear}
use Rattle.rules.specs.Words.{pick, one_of, holds, Lent, Each, end, ◌next◌}
use Rattle.rules.specs.Works.{all}
use Rattle.rules.specs.Reading.{known}
use Rattle.rules.specs.Tears.{OfBytes}
use Rattle.rules.proofs.Bools.{and_both, never}
use Rattle.stations.specs.Slots.{Shown, slot_count, data_size, live, live_of, free_slot}
use Rattle.stations.specs.Plans.{record_frame, mark_frame, clearings, storing_at}
use Rattle.stations.specs.Keeping.{cleared_by, after_writes, Storable}
use Rattle.stations.proofs.First.{one_of_take}
use Rattle.stations.proofs.Same.{and_no_left, and_no_right, live_marks, empty_blank, live_of_split, free_empty}
use Rattle.stations.proofs.Midway.{lives_of, lives_in, after_body, after_mark, after_other, after_same, none_cleared, after_unmarked, live_not_free}
use Rattle.stations.proofs.Programmed.{stopped_by, programmed, programmed_all, and_ff, stopped_bytes, slot_miss, slot_hit_at}
use Rattle.stations.proofs.Clears.{Below, clear_miss, clear_hit, take_clearings}
use Rattle.stations.proofs.Shown.{list_of, list_plain, list_open, list_same}

-- ---- the list after the first w writes

each_byte : (l : List ℕ) → Each (λ (b : ℕ). b < 256) l → (d : ℕ) → get_or l d 0 < 256
each_byte [] end d = omega arith
each_byte (x ∷ xs) (h next r) zero = h
each_byte (x ∷ xs) (h next r) (suc d) = each_byte xs r d

ff_and : (x : ℕ) → x < 256 → bit_and 0xFF x ≡ x
ff_and x h = and_comm 0xFF x ∙ and_ff x h

-- after none it is as before
pub none_written : (v : Shown) (n : ℕ) (bytes : List ℕ) (p : ℕ) → after_writes v n bytes 0 p ≡ v p
unfolding after_writes
none_written v n bytes p = refl

module _ (protection : ℕ) (r : Range) (mem : Lent) (small : OfBytes mem) (n : ℕ) (bytes : List ℕ) (long : length bytes ≡ data_size)
    (room : free_slot (list_of protection r mem) < slot_count) where
  abbrev v : Shown
  v = list_of protection r mem

  abbrev free : ℕ
  free = free_slot v

  abbrev body : List ℕ
  body = n / 256 % 256 ∷ n % 256 ∷ bytes

  abbrev one : Lent
  one = programmed (record_frame free n bytes) mem

  abbrev two : Lent
  two = programmed (mark_frame free 0x53 0x54) one

  small_one : OfBytes one
  small_one = stopped_bytes all (record_frame free n bytes) mem small

  small_two : OfBytes two
  small_two = stopped_bytes all (mark_frame free 0x53 0x54) one small_one

  lives_below : (k : ℕ) → Below (take k (lives_of v n))
  lives_below k i e = let p = one_of_take i k (lives_of v n) slot_count e in let h = (lives_in v n p.at p.inside).0 in let z = p.is in omega arith

  -- the two first frames, where they miss, for any memory
  pub record_miss : (t : Tear) (l : Lent) → OfBytes l → (i j : ℕ) → j < 32 → (eqb i free && leb 2 j) ≡ false
      → (stopped_by t (record_frame free n bytes) l).byte (0x10000 + (i * 32 + j)) ≡ l.byte (0x10000 + (i * 32 + j))
  record_miss t l s i j h e = slot_miss free 2 (free * 32 + 2) refl body room (omega arith) (omega arith) t l s i j h (λ z. inl (go (ltb j 2) refl z))
    where
      go : (b : Bool) → ltb j 2 ≡ b → i ≡ free → j < 2
      go true p z = ltb-true j 2 p
      go false p z = absurd (true≢false (sym (and_both (eq-eqb i free z) (le-leb 2 j (ltb-false j 2 p))) ∙ e))

  pub mark_miss : (t : Tear) (l : Lent) → OfBytes l → (i j : ℕ) → j < 32 → (eqb i free && ltb j 2) ≡ false
      → (stopped_by t (mark_frame free 0x53 0x54) l).byte (0x10000 + (i * 32 + j)) ≡ l.byte (0x10000 + (i * 32 + j))
  mark_miss t l s i j h e =
      slot_miss free 0 (free * 32) (omega arith) (0x53 ∷ 0x54 ∷ []) room (omega arith) (omega arith) t l s i j h (λ z. inr (go (ltb j 2) refl z))
    where
      go : (b : Bool) → ltb j 2 ≡ b → i ≡ free → 2 ≤ j
      go true p z = absurd (true≢false (sym (and_both (eq-eqb i free z) p) ∙ e))
      go false p z = ltb-false j 2 p

  -- the new slot is not hidden, and FF
  free_open : (j : ℕ) → j < 32 → (holds r (0x10000 + (free * 32 + j)) ≡ false) × (mem.byte (0x10000 + (free * 32 + j)) ≡ 0xFF)
  free_open j h = list_open protection r mem free j 0xFF room h (empty_blank v free (free_empty v room) j h) (λ z. omega arith)

  -- neither is the mark of a live slot
  mark_open : (i j : ℕ) → i < slot_count → live v i ≡ true → j < 2 → holds r (0x10000 + (i * 32 + j)) ≡ false
  mark_open i zero l e h = (list_open protection r mem i 0 0x53 l (omega arith) (live_marks v i e).0 (λ z. omega arith)).0
  mark_open i (suc zero) l e h = (list_open protection r mem i 1 0x54 l (omega arith) (live_marks v i e).1 (λ z. omega arith)).0
  mark_open i (suc (suc j)) l e h = absurd (omega arith)

  module _ (right : Storable n bytes) where
    body_byte : (d : ℕ) → get_or body d 0 < 256
    body_byte zero = omega arith
    body_byte (suc zero) = omega arith
    body_byte (suc (suc d)) = each_byte bytes right.each d

    one_body : (j : ℕ) → 2 ≤ j → j < 32 → one.byte (0x10000 + (free * 32 + j)) ≡ get_or body (j - 2) 0
    one_body j a b =
        slot_hit_at free 2 (free * 32 + 2) refl body room (omega arith) (omega arith) mem j a (omega arith)
        ∙ ap (λ (x : ℕ). bit_and x (get_or body (j - 2) 0)) (free_open j b).1 ∙ ff_and (get_or body (j - 2) 0) (body_byte (j - 2))

    two_body : (j : ℕ) → 2 ≤ j → j < 32 → two.byte (0x10000 + (free * 32 + j)) ≡ get_or body (j - 2) 0
    two_body j a b = mark_miss all one small_one free j b (and_no_right (eqb free free) (ltb j 2) (le-ltb j 2 a)) ∙ one_body j a b

    two_mark : (j : ℕ) → j < 2 → two.byte (0x10000 + (free * 32 + j)) ≡ get_or (0x53 ∷ 0x54 ∷ []) j 0
    two_mark j h =
        let z : j - 0 ≡ j = omega arith in
        slot_hit_at free 0 (free * 32) (omega arith) (0x53 ∷ 0x54 ∷ []) room (omega arith) (omega arith) one j (omega arith) (omega arith)
        ∙ ap₂ bit_and
        (record_miss all mem small free j (omega arith) (and_no_right (eqb free free) (leb 2 j) (lt-leb 2 j h)) ∙ (free_open j (omega arith)).1)
        (ap (λ (k : ℕ). get_or (0x53 ∷ 0x54 ∷ []) k 0) z)
        ∙ ff_and (get_or (0x53 ∷ 0x54 ∷ []) j 0) (byte j)
      where
        byte : (j : ℕ) → get_or (0x53 ∷ 0x54 ∷ []) j 0 < 256
        byte zero = omega arith
        byte (suc zero) = omega arith
        byte (suc (suc j)) = omega arith

    -- ---- slot by slot

    -- after the first write
    one_free : (j : ℕ) → j < 32 → list_of protection r one (free * 32 + j) ≡ after_writes v n bytes 1 (free * 32 + j)
    one_free j h = go (ltb j 2) refl
      where
        go : (b : Bool) → ltb j 2 ≡ b → list_of protection r one (free * 32 + j) ≡ after_writes v n bytes 1 (free * 32 + j)
        go true p =
            let l = ltb-true j 2 p in
            list_same protection r mem one (free * 32 + j) (omega arith)
            (record_miss all mem small free j h (and_no_right (eqb free free) (leb 2 j) (lt-leb 2 j l)))
            ∙ sym (after_unmarked v n bytes 1 free j (omega arith) l)
        go false p =
            let l = ltb-false j 2 p in
            list_plain protection r one (free * 32 + j) (omega arith) (free_open j h).0 ∙ ap known (one_body j l h) ∙ sym (after_body v n bytes 1 j (omega arith) l h)

    one_other : (i j : ℕ) → i < slot_count → j < 32 → (i ≡ free → ⊥) → list_of protection r one (i * 32 + j) ≡ after_writes v n bytes 1 (i * 32 + j)
    one_other i j l h ne =
        list_same protection r mem one (i * 32 + j) (omega arith) (record_miss all mem small i j h (and_no_left (eqb i free) (leb 2 j) (ne_eqb i free ne)))
        ∙ sym (after_same v n bytes 1 i j ne h (and_no_left (one_of i (cleared_by v n 1)) (ltb j 2) (none_cleared v n bytes 1 i (omega arith))))

    -- after the first two and k clears
    module _ (k : ℕ) where
      abbrev some : List ℕ
      some = take k (lives_of v n)

      abbrev then : Lent
      then = programmed_all (clearings some) two

      then_free : (j : ℕ) → j < 32 → list_of protection r then (free * 32 + j) ≡ after_writes v n bytes (suc (suc k)) (free * 32 + j)
      then_free j h = list_plain protection r then (free * 32 + j) (omega arith) (free_open j h).0 ∙ ap known kept ∙ go (ltb j 2) refl
        where
          kept : then.byte (0x10000 + (free * 32 + j)) ≡ two.byte (0x10000 + (free * 32 + j))
          kept =
              clear_miss some (lives_below k) two small_two free j h (and_no_left (one_of free some) (ltb j 2) (never (one_of free some) (λ e.
              let p = one_of_take free k (lives_of v n) slot_count e in live_not_free v n room n (get_or (lives_of v n) p.at slot_count) (lives_in v n p.at p.inside).1 p.is)))

          go : (b : Bool) → ltb j 2 ≡ b → known (two.byte (0x10000 + (free * 32 + j))) ≡ after_writes v n bytes (suc (suc k)) (free * 32 + j)
          go true p = let l = ltb-true j 2 p in ap known (two_mark j l) ∙ sym (after_mark v n bytes (suc (suc k)) j (omega arith) l)
          go false p = let l = ltb-false j 2 p in ap known (two_body j l h) ∙ sym (after_body v n bytes (suc (suc k)) j (omega arith) l h)

      then_other : (i j : ℕ) → i < slot_count → j < 32 → (i ≡ free → ⊥) → list_of protection r then (i * 32 + j) ≡ after_writes v n bytes (suc (suc k)) (i * 32 + j)
      then_other i j l h ne = go (one_of i some) (ltb j 2) refl refl ∙ sym (after_other v n bytes (suc (suc k)) i j ne h ∙ ap (λ (m : ℕ). pick (one_of i (take m (lives_of v n)) && ltb j 2) (known 0x00) (v (i * 32 + j))) z)
        where
          z : suc (suc k) - 2 ≡ k
          z = omega arith

          kept : (one_of i some && ltb j 2) ≡ false → then.byte (0x10000 + (i * 32 + j)) ≡ mem.byte (0x10000 + (i * 32 + j))
          kept e =
              clear_miss some (lives_below k) two small_two i j h e
              ∙ mark_miss all one small_one i j h (and_no_left (eqb i free) (ltb j 2) (ne_eqb i free ne))
              ∙ record_miss all mem small i j h (and_no_left (eqb i free) (leb 2 j) (ne_eqb i free ne))

          go : (b c : Bool) → one_of i some ≡ b → ltb j 2 ≡ c → list_of protection r then (i * 32 + j) ≡ pick (one_of i some && ltb j 2) (known 0x00) (v (i * 32 + j))
          go true true p q =
              let p' = one_of_take i k (lives_of v n) slot_count p in
              let e : live_of v n i ≡ true = subst (λ (y : ℕ). live_of v n y ≡ true) p'.is (lives_in v n p'.at p'.inside).1 in
              let s = ltb-true j 2 q in
              list_plain protection r then (i * 32 + j) (omega arith) (mark_open i j l (live_of_split v n i e).0 s)
              ∙ ap known (clear_hit some (lives_below k) two small_two i j s p) ∙ sym (ap (λ (b : Bool). pick b (known 0x00) (v (i * 32 + j))) (and_both p q))
          go true false p q =
              list_same protection r mem then (i * 32 + j) (omega arith) (kept (and_no_right (one_of i some) (ltb j 2) q))
              ∙ sym (ap (λ (b : Bool). pick b (known 0x00) (v (i * 32 + j))) (and_no_right (one_of i some) (ltb j 2) q))
          go false c p q =
              list_same protection r mem then (i * 32 + j) (omega arith) (kept (and_no_left (one_of i some) (ltb j 2) p))
              ∙ sym (ap (λ (b : Bool). pick b (known 0x00) (v (i * 32 + j))) (and_no_left (one_of i some) (ltb j 2) p))

    pub stored_slot : (w i j : ℕ) → i < slot_count → j < 32
        → list_of protection r (programmed_all (take w (storing_at v n bytes free)) mem) (i * 32 + j) ≡ after_writes v n bytes w (i * 32 + j)
    stored_slot zero i j l h = sym (none_written v n bytes (i * 32 + j))
    stored_slot (suc zero) i j l h = go (ℕ_discrete i free)
      where
        go : Dec (i ≡ free) → list_of protection r one (i * 32 + j) ≡ after_writes v n bytes 1 (i * 32 + j)
        go (yes z) = subst (λ (i : ℕ). list_of protection r one (i * 32 + j) ≡ after_writes v n bytes 1 (i * 32 + j)) (sym z) (one_free j h)
        go (no ne) = one_other i j l h ne
    stored_slot (suc (suc k)) i j l h =
        ap (λ (fs : List (List ℕ)). list_of protection r (programmed_all fs two) (i * 32 + j)) (take_clearings k (lives_of v n)) ∙ go (ℕ_discrete i free)
      where
        go : Dec (i ≡ free) → list_of protection r (programmed_all (clearings (take k (lives_of v n))) two) (i * 32 + j) ≡ after_writes v n bytes (suc (suc k)) (i * 32 + j)
        go (yes z) =
            subst (λ (i : ℕ). list_of protection r (programmed_all (clearings (take k (lives_of v n))) two) (i * 32 + j) ≡ after_writes v n bytes (suc (suc k)) (i * 32 + j)) (sym z)
            (then_free k j h)
        go (no ne) = then_other k i j l h ne

    -- the list after the first w frames is that of the first w writes
    pub stored_list : (w q : ℕ) → q < 65536 → list_of protection r (programmed_all (take w (storing_at v n bytes free)) mem) q ≡ after_writes v n bytes w q
    stored_list w q h =
        let z : q / 32 * 32 + q % 32 ≡ q = omega arith in
        subst (λ (p : ℕ). list_of protection r (programmed_all (take w (storing_at v n bytes free)) mem) p ≡ after_writes v n bytes w p) z
        (stored_slot w (q / 32) (q % 32) (omega arith) (omega arith))
