-- The clears of a store on memory: the marks of the slots come out 00, and no other byte changes. Assumes nothing.
use Prim.Native.Nat.{ℕ, zero, suc, ◌+◌, ◌-◌, ◌*◌, ◌≤◌, ◌<◌}
use mathlib.Core.Path.{◌≡◌, refl, sym, ap, ◌∙◌, subst}
use mathlib.Core.Bool.{Bool, true, false, ◌&&◌, ◌||◌, true≢false, false≢true}
use mathlib.Core.List.{List, [], ◌∷◌}
use mathlib.Core.Logic.{inr}
use native.Mathlib.Omega.{arith}
use lib.Dec.{eqb, ltb}
use lib.ListN.{length, get_or, take}
use lib.Bits.{bit_and, and_zero_r}
use borrow.Author.Tests.{ltb-false, eqb-true, eq-eqb}
use Rattle.rules.specs.declared.Tear.{Tear}
use Rattle.rules.specs.Words.{one_of, Lent}
use Rattle.rules.specs.Works.{all}
use Rattle.rules.specs.Tears.{OfBytes}
use Rattle.rules.proofs.Bools.{and_both, or_left, or_right}
use Rattle.stations.specs.Slots.{slot_count}
use Rattle.stations.specs.Plans.{mark_frame, clearings}
use Rattle.stations.proofs.Same.{and_no_left}
use Rattle.stations.proofs.Programmed.{stopped_by, programmed, programmed_all, stopped_bytes, slot_miss, slot_hit_at}

zeros : (j : ℕ) → ◌≡◌ {A = ℕ} (get_or (0x00 ∷ 0x00 ∷ []) j 0) 0
zeros zero = refl
zeros (suc zero) = refl
zeros (suc (suc j)) = refl

-- every slot of the list
abbrev pub Below : List ℕ → Type 0
Below is = (k : ℕ) → one_of k is ≡ true → k < slot_count

pub below_first : (c : ℕ) (is : List ℕ) → Below (c ∷ is) → c < slot_count
below_first c is h = h c (or_left (eqb c c) (one_of c is) (eq-eqb c c refl))

pub below_rest : (c : ℕ) (is : List ℕ) → Below (c ∷ is) → Below is
below_rest c is h k e = h k (or_right (eqb k c) (one_of k is) e)

pub clear_miss_one : (c : ℕ) → c < slot_count → (t : Tear) (mem : Lent) → OfBytes mem → (i j : ℕ) → j < 32 → (eqb i c && ltb j 2) ≡ false
    → (stopped_by t (mark_frame c 0x00 0x00) mem).byte (0x10000 + (i * 32 + j)) ≡ mem.byte (0x10000 + (i * 32 + j))
clear_miss_one c l t mem small i j h e =
    slot_miss c 0 (c * 32) (omega arith) (0x00 ∷ 0x00 ∷ []) l (omega arith) (omega arith) t mem small i j h (λ z. inr (go (ltb j 2) refl z))
  where
    go : (b : Bool) → ltb j 2 ≡ b → i ≡ c → 2 ≤ j
    go true p z = absurd (true≢false (sym (and_both (eq-eqb i c z) p) ∙ e))
    go false p z = ltb-false j 2 p

pub clear_miss : (is : List ℕ) → Below is → (mem : Lent) → OfBytes mem → (i j : ℕ) → j < 32 → (one_of i is && ltb j 2) ≡ false
    → (programmed_all (clearings is) mem).byte (0x10000 + (i * 32 + j)) ≡ mem.byte (0x10000 + (i * 32 + j))
unfolding clearings
clear_miss [] b mem small i j h e = refl
clear_miss (c ∷ is) b mem small i j h e =
    clear_miss is (below_rest c is b) (programmed (mark_frame c 0x00 0x00) mem) (stopped_bytes all (mark_frame c 0x00 0x00) mem small) i j h (apart (eqb i c) (one_of i is) (ltb j 2) e).1
    ∙ clear_miss_one c (below_first c is b) all mem small i j h (apart (eqb i c) (one_of i is) (ltb j 2) e).0
  where
    apart : (x y z : Bool) → ((x || y) && z) ≡ false → ((x && z) ≡ false) × ((y && z) ≡ false)
    apart true y true e = absurd (true≢false e)
    apart true true false e = (refl, refl)
    apart true false false e = (refl, refl)
    apart false y z e = (refl, e)

pub clear_hit : (is : List ℕ) → Below is → (mem : Lent) → OfBytes mem → (i j : ℕ) → j < 2 → one_of i is ≡ true
    → (programmed_all (clearings is) mem).byte (0x10000 + (i * 32 + j)) ≡ 0
unfolding clearings
clear_hit [] b mem small i j h e = absurd (false≢true e)
clear_hit (c ∷ is) b mem small i j h e = go (one_of i is) refl (clear_hit is (below_rest c is b) after (stopped_bytes all (mark_frame c 0x00 0x00) mem small) i j h)
  where
    after : Lent
    after = programmed (mark_frame c 0x00 0x00) mem

    cleared : i ≡ c → after.byte (0x10000 + (i * 32 + j)) ≡ 0
    cleared z =
        subst (λ (k : ℕ). after.byte (0x10000 + (k * 32 + j)) ≡ 0) (sym z)
        (slot_hit_at c 0 (c * 32) (omega arith) (0x00 ∷ 0x00 ∷ []) (below_first c is b) (omega arith) (omega arith) mem j (omega arith) (omega arith)
        ∙ ap (bit_and (mem.byte (0x10000 + (c * 32 + j)))) (zeros (j - 0)) ∙ and_zero_r (mem.byte (0x10000 + (c * 32 + j))))

    other : one_of i is ≡ false → eqb i c ≡ true
    other f = first (eqb i c) (one_of i is) f e
      where
        first : (x y : Bool) → y ≡ false → (x || y) ≡ true → x ≡ true
        first true y f e = refl
        first false y f e = absurd (true≢false (sym e ∙ f))

    go : (x : Bool) → one_of i is ≡ x → (one_of i is ≡ true → (programmed_all (clearings is) after).byte (0x10000 + (i * 32 + j)) ≡ 0)
        → (programmed_all (clearings is) after).byte (0x10000 + (i * 32 + j)) ≡ 0
    go true p f = f p
    go false p f =
        clear_miss is (below_rest c is b) after (stopped_bytes all (mark_frame c 0x00 0x00) mem small) i j (omega arith) (and_no_left (one_of i is) (ltb j 2) p)
        ∙ cleared (eqb-true i c (other p))

pub take_clearings : (k : ℕ) (is : List ℕ) → take k (clearings is) ≡ clearings (take k is)
unfolding clearings
take_clearings zero is = refl
take_clearings (suc k) [] = refl
take_clearings (suc k) (i ∷ is) = ap (λ (l : List (List ℕ)). mark_frame i 0x00 0x00 ∷ l) (take_clearings k is)

pub length_clearings : (is : List ℕ) → length (clearings is) ≡ length is
unfolding clearings
length_clearings [] = refl
length_clearings (i ∷ is) = ap suc (length_clearings is)

pub clearing_at : (is : List ℕ) (k d : ℕ) → k < length is → get_or (clearings is) k [] ≡ mark_frame (get_or is k d) 0x00 0x00
unfolding clearings
clearing_at [] k d h = absurd (omega arith)
clearing_at (i ∷ is) zero d h = refl
clearing_at (i ∷ is) (suc k) d h = clearing_at is k d (omega arith)
