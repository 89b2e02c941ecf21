-- The list in the middle of a store. Whatever becomes of the bytes of the one frame under way, the slots that the store does not name stand whole, the others of the number keep
-- number and data, and the new one is not live before its number and data are there: so lookups of other numbers stay, and the number itself gives old or new data. Assumes nothing.
use Prim.Native.Nat.{ℕ, zero, suc, ◌+◌, ◌-◌, ◌*◌, ◌/◌, ◌%◌, ◌≤◌, ◌<◌}
use mathlib.Core.Path.{◌≡◌, refl, sym, ap, ap₂, ◌∙◌, subst}
use mathlib.Core.Bool.{Bool, true, false, ◌&&◌, true≢false, false≢true}
use mathlib.Core.List.{List, [], ◌∷◌}
use mathlib.Core.Logic.{◌⊎◌, inl, inr}
use native.Mathlib.Omega.{arith}
use lib.Dec.{eqb, ltb, leb}
use lib.ListN.{length, get_or, take}
use borrow.Author.Tests.{ltb-true, ltb-false, eq-eqb, ne_eqb, le-ltb, le-leb, lt-leb}
use Rattle.rules.specs.declared.Cell.{Cell}
use Rattle.rules.specs.Words.{pick, one_of}
use Rattle.rules.specs.Reading.{known}
use Rattle.rules.proofs.Bools.{and_both, never}
use Rattle.stations.specs.Slots.{Shown, slot_count, data_size, those_from, byte_of, live, station, live_of, bytes_of, free_slot}
use Rattle.stations.specs.Keeping.{cleared_by, after_writes, Storable}
use Rattle.stations.proofs.First.{those_in, Place, those_has, one_of_take}
use Rattle.stations.proofs.Same.{and_no_left, and_no_right, SameFrom, same_live, marks_live, no_mark, empty_blank, empty_not_live, live_of_split, not_live_of, bytes_are, free_empty}

pick_yes : {A : Type 0} (b : Bool) (x y : A) → b ≡ true → pick b x y ≡ x
pick_yes true x y e = refl
pick_yes false x y e = absurd (false≢true e)

pick_no : {A : Type 0} (b : Bool) (x y : A) → b ≡ false → pick b x y ≡ y
pick_no true x y e = absurd (true≢false e)
pick_no false x y e = refl

-- the live slots of a number, lowest first
abbrev pub lives_of : Shown → ℕ → List ℕ
lives_of v n = those_from (live_of v n) 0 slot_count

pub lives_in : (v : Shown) (n k : ℕ) → k < length (lives_of v n) → (get_or (lives_of v n) k slot_count < slot_count) × (live_of v n (get_or (lives_of v n) k slot_count) ≡ true)
lives_in v n k h = let r = those_in (live_of v n) 0 slot_count k slot_count h in let b = r.to in (omega arith, r.hit)

pub lives_has : (v : Shown) (n i : ℕ) → i < slot_count → live_of v n i ≡ true → Place (lives_of v n) slot_count i
lives_has v n i l e = those_has (live_of v n) 0 slot_count slot_count i (record { from = omega arith; to = omega arith; hit = e })

pub cleared_live : (v : Shown) (n w i : ℕ) → one_of i (cleared_by v n w) ≡ true → live_of v n i ≡ true
cleared_live v n w i e =
    let r = one_of_take i (w - 2) (lives_of v n) slot_count e in
    subst (λ (y : ℕ). live_of v n y ≡ true) r.is (lives_in v n r.at r.inside).1

-- ---- the list after w writes, cell by cell

module _ (v : Shown) (n : ℕ) (bytes : List ℕ) (w : ℕ) where
  abbrev cell_at : ℕ → ℕ → Cell → Cell
  cell_at i j c =
      pick (leb 1 w && eqb i (free_slot v) && leb 2 j) (known (get_or (n / 256 % 256 ∷ n % 256 ∷ bytes) (j - 2) 0))
      (pick (leb 2 w && eqb i (free_slot v)) (known (get_or (0x53 ∷ 0x54 ∷ []) j 0))
      (pick (one_of i (cleared_by v n w) && ltb j 2) (known 0x00) c))

  after_at : (i j : ℕ) → j < 32 → after_writes v n bytes w (i * 32 + j) ≡ cell_at i j (v (i * 32 + j))
  unfolding after_writes
  after_at i j l =
      let a : (i * 32 + j) / 32 ≡ i = omega arith in
      let b : (i * 32 + j) % 32 ≡ j = omega arith in
      ap₂ (λ (x y : ℕ). cell_at x y (v (i * 32 + j))) a b

  pub after_body : (j : ℕ) → 1 ≤ w → 2 ≤ j → j < 32 → after_writes v n bytes w (free_slot v * 32 + j) ≡ known (get_or (n / 256 % 256 ∷ n % 256 ∷ bytes) (j - 2) 0)
  after_body j a b l =
      after_at (free_slot v) j l ∙ pick_yes _ _ _ (and_both (and_both (le-leb 1 w a) (eq-eqb (free_slot v) (free_slot v) refl)) (le-leb 2 j b))

  pub after_mark : (j : ℕ) → 2 ≤ w → j < 2 → after_writes v n bytes w (free_slot v * 32 + j) ≡ known (get_or (0x53 ∷ 0x54 ∷ []) j 0)
  after_mark j a b =
      after_at (free_slot v) j (omega arith) ∙ pick_no _ _ _ (and_no_right (leb 1 w && eqb (free_slot v) (free_slot v)) (leb 2 j) (lt-leb 2 j b))
      ∙ pick_yes _ _ _ (and_both (le-leb 2 w a) (eq-eqb (free_slot v) (free_slot v) refl))

  pub after_other : (i j : ℕ) → (i ≡ free_slot v → ⊥) → j < 32
      → after_writes v n bytes w (i * 32 + j) ≡ pick (one_of i (cleared_by v n w) && ltb j 2) (known 0x00) (v (i * 32 + j))
  after_other i j ne l =
      let e = ne_eqb i (free_slot v) ne in
      after_at i j l ∙ pick_no _ _ _ (and_no_left (leb 1 w && eqb i (free_slot v)) (leb 2 j) (and_no_right (leb 1 w) (eqb i (free_slot v)) e)) ∙ pick_no _ _ _ (and_no_right (leb 2 w) (eqb i (free_slot v)) e)

  pub after_same : (i j : ℕ) → (i ≡ free_slot v → ⊥) → j < 32 → (one_of i (cleared_by v n w) && ltb j 2) ≡ false → after_writes v n bytes w (i * 32 + j) ≡ v (i * 32 + j)
  after_same i j ne l e = after_other i j ne l ∙ pick_no _ _ _ e

  pub none_cleared : (i : ℕ) → w < 2 → one_of i (cleared_by v n w) ≡ false
  none_cleared i h = let z : w - 2 ≡ 0 = omega arith in ap (λ (k : ℕ). one_of i (take k (lives_of v n))) z

  -- before the mark is written
  pub after_unmarked : (i j : ℕ) → w < 2 → j < 2 → after_writes v n bytes w (i * 32 + j) ≡ v (i * 32 + j)
  after_unmarked i j h l =
      after_at i j (omega arith) ∙ pick_no _ _ _ (and_no_right (leb 1 w && eqb i (free_slot v)) (leb 2 j) (lt-leb 2 j l)) ∙ pick_no _ _ _ (and_no_left (leb 2 w) (eqb i (free_slot v)) (lt-leb 2 w h))
      ∙ pick_no _ _ _ (and_no_left (one_of i (cleared_by v n w)) (ltb j 2) (none_cleared i h))

-- ---- the list x while frame q of the plan is under way: the list after q writes, but for the bytes that the frame sends

-- byte j of slot i is one of those: number and data, the mark, the mark of another live slot
unfoldable pub in_frame : Shown → ℕ → ℕ → ℕ → ℕ → Bool
in_frame v n zero i j = eqb i (free_slot v) && leb 2 j
in_frame v n (suc zero) i j = eqb i (free_slot v) && ltb j 2
in_frame v n (suc (suc k)) i j = eqb i (get_or (lives_of v n) k slot_count) && ltb j 2

unfoldable pub Underway : Shown → ℕ → List ℕ → ℕ → Shown → Type 0
Underway v n bytes q x = (i j : ℕ) → i < slot_count → j < 32 → in_frame v n q i j ≡ false → x (i * 32 + j) ≡ after_writes v n bytes q (i * 32 + j)

-- the list after q writes is one
pub after_underway : (v : Shown) (n : ℕ) (bytes : List ℕ) (q : ℕ) → Underway v n bytes q (after_writes v n bytes q)
unfolding Underway
after_underway v n bytes q i j a b e = refl

-- ---- what holds of each

pub record Midway (v : Shown) (n : ℕ) (bytes : List ℕ) (x : Shown) : Type 0 where
  pub rest : (i : ℕ) → i < slot_count → (i ≡ free_slot v → ⊥) → live_of v n i ≡ false → SameFrom 0 v x i
  pub tail : (i : ℕ) → i < slot_count → live_of v n i ≡ true → SameFrom 2 v x i
  pub fresh : live x (free_slot v) ≡ true → (station x (free_slot v) ≡ n) × (bytes_of x (free_slot v) 4 data_size ≡ bytes)

-- the new slot is live, or all the others of the number still are
abbrev pub Turned : Shown → ℕ → Shown → Type 0
Turned v n x = (live x (free_slot v) ≡ true) ⊎ ((live x (free_slot v) ≡ false) × ((i : ℕ) → i < slot_count → live_of v n i ≡ true → live x i ≡ true))

module _ (v : Shown) (n : ℕ) (room : free_slot v < slot_count) where
  -- the first empty slot is live of no number
  pub free_not_live_of : (q : ℕ) → live_of v q (free_slot v) ≡ false
  free_not_live_of q = not_live_of v q (free_slot v) (empty_not_live v (free_slot v) (free_empty v room))

  pub live_not_free : (q i : ℕ) → live_of v q i ≡ true → i ≡ free_slot v → ⊥
  live_not_free q i e z = true≢false (sym e ∙ ap (live_of v q) z ∙ free_not_live_of q)

  frame_other : (q i j : ℕ) → i < slot_count → (i ≡ free_slot v → ⊥) → live_of v n i ≡ false → in_frame v n q i j ≡ false
  unfolding in_frame
  frame_other zero i j l ne e = and_no_left (eqb i (free_slot v)) (leb 2 j) (ne_eqb i (free_slot v) ne)
  frame_other (suc zero) i j l ne e = and_no_left (eqb i (free_slot v)) (ltb j 2) (ne_eqb i (free_slot v) ne)
  frame_other (suc (suc k)) i j l ne e = and_no_left (eqb i (get_or (lives_of v n) k slot_count)) (ltb j 2) (ne_eqb i (get_or (lives_of v n) k slot_count) (λ z. go (ltb k (length (lives_of v n))) refl z))
    where
      go : (b : Bool) → ltb k (length (lives_of v n)) ≡ b → i ≡ get_or (lives_of v n) k slot_count → ⊥
      go true p z = true≢false (sym (lives_in v n k (ltb-true k (length (lives_of v n)) p)).1 ∙ ap (live_of v n) (sym z) ∙ e)
      go false p z =
          let y = lib.ListN.get_or-eq_default (lives_of v n) slot_count {n = k} (ltb-false k (length (lives_of v n)) p) in
          absurd (omega arith)

  frame_tail : (q i j : ℕ) → (i ≡ free_slot v → ⊥) → 2 ≤ j → in_frame v n q i j ≡ false
  unfolding in_frame
  frame_tail zero i j ne l = and_no_left (eqb i (free_slot v)) (leb 2 j) (ne_eqb i (free_slot v) ne)
  frame_tail (suc zero) i j ne l = and_no_right (eqb i (free_slot v)) (ltb j 2) (le-ltb j 2 l)
  frame_tail (suc (suc k)) i j ne l = and_no_right (eqb i (get_or (lives_of v n) k slot_count)) (ltb j 2) (le-ltb j 2 l)

  frame_body : (q i j : ℕ) → 2 ≤ j → in_frame v n (suc q) i j ≡ false
  unfolding in_frame
  frame_body zero i j l = and_no_right (eqb i (free_slot v)) (ltb j 2) (le-ltb j 2 l)
  frame_body (suc k) i j l = and_no_right (eqb i (get_or (lives_of v n) k slot_count)) (ltb j 2) (le-ltb j 2 l)

  frame_first : (j : ℕ) → j < 2 → in_frame v n 0 (free_slot v) j ≡ false
  unfolding in_frame
  frame_first j l = and_no_right (eqb (free_slot v) (free_slot v)) (leb 2 j) (lt-leb 2 j l)

  frame_early : (q i j : ℕ) → q < 2 → (i ≡ free_slot v → ⊥) → in_frame v n q i j ≡ false
  unfolding in_frame
  frame_early zero i j h ne = and_no_left (eqb i (free_slot v)) (leb 2 j) (ne_eqb i (free_slot v) ne)
  frame_early (suc zero) i j h ne = and_no_left (eqb i (free_slot v)) (ltb j 2) (ne_eqb i (free_slot v) ne)
  frame_early (suc (suc k)) i j h ne = absurd (omega arith)

  frame_clear : (k j : ℕ) → k < length (lives_of v n) → in_frame v n (suc (suc k)) (free_slot v) j ≡ false
  unfolding in_frame
  frame_clear k j h = and_no_left (eqb (free_slot v) (get_or (lives_of v n) k slot_count)) (ltb j 2) (ne_eqb (free_slot v) (get_or (lives_of v n) k slot_count) (λ z. live_not_free n _ (lives_in v n k h).1 (sym z)))

  module _ (bytes : List ℕ) (right : Storable n bytes) (long : length bytes ≡ data_size) (q : ℕ) (x : Shown) (u : Underway v n bytes q x) where
    under : (i j : ℕ) → i < slot_count → j < 32 → in_frame v n q i j ≡ false → x (i * 32 + j) ≡ after_writes v n bytes q (i * 32 + j)
    unfolding Underway
    under i j a b e = u i j a b e

    rest : (i : ℕ) → i < slot_count → (i ≡ free_slot v → ⊥) → live_of v n i ≡ false → SameFrom 0 v x i
    unfolding SameFrom
    rest i l ne e j a b =
        sym (under i j l b (frame_other q i j l ne e)
        ∙ after_same v n bytes q i j ne b (and_no_left (one_of i (cleared_by v n q)) (ltb j 2) (never (one_of i (cleared_by v n q)) (λ h. true≢false (sym (cleared_live v n q i h) ∙ e)))))

    tail : (i : ℕ) → i < slot_count → live_of v n i ≡ true → SameFrom 2 v x i
    unfolding SameFrom
    tail i l e j a b =
        let ne = live_not_free n i e in
        sym (under i j l b (frame_tail q i j ne a) ∙ after_same v n bytes q i j ne b (and_no_right (one_of i (cleared_by v n q)) (ltb j 2) (le-ltb j 2 a)))

    body_byte : (j : ℕ) → 1 ≤ q → 2 ≤ j → j < 32 → in_frame v n q (free_slot v) j ≡ false → byte_of x (free_slot v) j ≡ get_or (n / 256 % 256 ∷ n % 256 ∷ bytes) (j - 2) 0
    unfolding byte_of
    body_byte j h a b e = ap (λ (c : Cell). c.byte) (under (free_slot v) j room b e ∙ after_body v n bytes q j h a b)

    -- the two numbers and the data, once they are there
    whole : 1 ≤ q → ((j : ℕ) → 2 ≤ j → in_frame v n q (free_slot v) j ≡ false) → (station x (free_slot v) ≡ n) × (bytes_of x (free_slot v) 4 data_size ≡ bytes)
    unfolding station
    whole h e =
        let a = body_byte 2 h (omega arith) (omega arith) (e 2 (omega arith)) in
        let b = body_byte 3 h (omega arith) (omega arith) (e 3 (omega arith)) in
        let s = right.number in
        let z : n / 256 % 256 * 256 + n % 256 ≡ n = omega arith in (
          ap₂ (λ (y z : ℕ). y * 256 + z) a b ∙ z,
          bytes_are x (free_slot v) 4 28 bytes long (λ d l.
              let y : 4 + d - 2 ≡ suc (suc d) = omega arith in
              body_byte (4 + d) h (omega arith) (omega arith) (e (4 + d) (omega arith)) ∙ ap (λ (k : ℕ). get_or (n / 256 % 256 ∷ n % 256 ∷ bytes) k 0) y),
        )

  module _ (bytes : List ℕ) (right : Storable n bytes) (long : length bytes ≡ data_size) where
    -- no mark before the first write is done
    first_unmarked : (x : Shown) → Underway v n bytes 0 x → live x (free_slot v) ≡ false
    unfolding Underway byte_of
    first_unmarked x u =
        no_mark x (free_slot v) 0xFF
        (ap (λ (c : Cell). c.byte) (u (free_slot v) 0 room (omega arith) (frame_first 0 (omega arith)) ∙ after_unmarked v n bytes 0 (free_slot v) 0 (omega arith) (omega arith))
        ∙ empty_blank v (free_slot v) (free_empty v room) 0 (omega arith))
        (λ h. omega arith)

    fresh : (q : ℕ) (x : Shown) → Underway v n bytes q x → live x (free_slot v) ≡ true → (station x (free_slot v) ≡ n) × (bytes_of x (free_slot v) 4 data_size ≡ bytes)
    fresh zero x u e = absurd (true≢false (sym e ∙ first_unmarked x u))
    fresh (suc q) x u e = whole bytes right long (suc q) x u (omega arith) (λ j l. frame_body q (free_slot v) j l)

    pub midway : (q : ℕ) (x : Shown) → Underway v n bytes q x → Midway v n bytes x
    midway q x u = record { rest = rest bytes right long q x u; tail = tail bytes right long q x u; fresh = fresh q x u }

    -- ---- the marks

    -- after one write or none there is none
    pub unmarked : (w : ℕ) → w < 2 → live (after_writes v n bytes w) (free_slot v) ≡ false
    unfolding byte_of
    unmarked w h =
        no_mark (after_writes v n bytes w) (free_slot v) 0xFF
        (ap (λ (c : Cell). c.byte) (after_unmarked v n bytes w (free_slot v) 0 h (omega arith)) ∙ empty_blank v (free_slot v) (free_empty v room) 0 (omega arith))
        (λ h. omega arith)

    -- before the others are cleared they are live
    pub others_live : (q : ℕ) (x : Shown) → Underway v n bytes q x → q < 2 → (i : ℕ) → i < slot_count → live_of v n i ≡ true → live x i ≡ true
    unfolding SameFrom
    others_live q x u h i l e = sym (same_live v x i same) ∙ (live_of_split v n i e).0
      where
        ne : i ≡ free_slot v → ⊥
        ne = live_not_free n i e

        same : SameFrom 0 v x i
        same j a b =
            sym (under bytes right long q x u i j l b (frame_early q i j h ne)
            ∙ after_same v n bytes q i j ne b (and_no_left (one_of i (cleared_by v n q)) (ltb j 2) (none_cleared v n bytes q i h)))

    marked : (k : ℕ) (x : Shown) → Underway v n bytes (suc (suc k)) x → k < length (lives_of v n) → live x (free_slot v) ≡ true
    unfolding Underway byte_of
    marked k x u h = marks_live x (free_slot v) (at 0 (omega arith)) (at 1 (omega arith))
      where
        at : (j : ℕ) → j < 2 → (x (free_slot v * 32 + j)).byte ≡ get_or (0x53 ∷ 0x54 ∷ []) j 0
        at j l = ap (λ (c : Cell). c.byte) (u (free_slot v) j room (omega arith) (frame_clear k j h) ∙ after_mark v n bytes (suc (suc k)) j (omega arith) l)

    pub turned : (q : ℕ) (x : Shown) → Underway v n bytes q x → q < 2 + length (lives_of v n) → Turned v n x
    turned zero x u h = inr (first_unmarked x u, others_live 0 x u (omega arith))
    turned (suc zero) x u h = go (live x (free_slot v)) refl
      where
        go : (b : Bool) → live x (free_slot v) ≡ b → Turned v n x
        go true e = inl e
        go false e = inr (e, others_live 1 x u (omega arith))
    turned (suc (suc k)) x u h = inl (marked k x u (omega arith))
