-- Steps of the loops over the page buffer. Assumes nothing.
use Prim.Native.Nat.{ℕ, zero, suc, ◌+◌, ◌-◌, ◌%◌, ◌≤◌, ◌<◌, min}
use mathlib.Core.Path.{◌≡◌, refl, sym, ap, ◌∙◌}
use mathlib.Core.Bool.{Bool, ◌&&◌}
use mathlib.Core.List.{List}
use native.Mathlib.Omega.{arith}
use native.Mathlib.Decide.{dec_le}
use native.Mathlib.Numerals.{add-one}
use lib.Dec.{eqb}
use lib.ListN.{length, get_or, take, drop, set, drop_of_length-le}
use lib.Seq.{drop-cons}
use lib.Bits.{bit_and, and_le_l, and_le_r}
use Rattle.std.specs.List.{fold}
use Rattle.std.proofs.lemmas.List.Sums.{fold_more}
use Rattle.std.proofs.lemmas.Slice.{between_to_end}
use borrow.Author.Tests.{eqb-true, eq-eqb}
use Rattle.rules.specs.WellFormed.{first_ff}
use Rattle.rules.specs.Programs.{fill}
use Rattle.rules.proofs.Bools.{and_split, and_both, same_test}

-- ---- all FF

-- two bytes together are FF exactly where each is
ff_both : (x y : ℕ) → x ≤ 255 → y ≤ 255 → eqb (bit_and x y) 255 ≡ (eqb y 255 && eqb x 255)
ff_both x y hx hy =
    same_test (eqb (bit_and x y) 255) (eqb y 255 && eqb x 255)
    (λ q. let z = eqb-true (bit_and x y) 255 q in
    let l = and_le_l x y in
    let r = and_le_r x y in
    and_both (eq-eqb y 255 (omega arith)) (eq-eqb x 255 (omega arith)))
    (λ q. let h = and_split (eqb y 255) (eqb x 255) q in rw (eqb-true y 255 h.0, eqb-true x 255 h.1))

-- the AND of the first n bytes is FF exactly where each of them is
pub ff_all : (b : List ℕ) → ((i : ℕ) → get_or b i 0 ≤ 255) → (n : ℕ) → n ≤ length b
    → (fold bit_and 255 (take n b) ≤ 255) × (eqb (fold bit_and 255 (take n b)) 255 ≡ first_ff n b)
unfolding first_ff
ff_all b small zero h = (omega arith, refl)
ff_all b small (suc n) h =
    let so_far = ff_all b small n (omega arith) in
    let e : fold bit_and 255 (take (suc n) b) ≡ bit_and (fold bit_and 255 (take n b)) (get_or b n 0) =
    ap (λ (k : ℕ). fold bit_and 255 (take k b)) (sym (add-one n)) ∙ fold_more bit_and 255 b n 0 (omega arith) in
    let l = and_le_l (fold bit_and 255 (take n b)) (get_or b n 0) in
    rw e (omega arith, ff_both _ _ so_far.0 (small n) ∙ ap (λ (t : Bool). eqb (get_or b n 0) 255 && t) so_far.1)

-- ---- the page buffer

-- one byte more is in the buffer
pub fill_next : (b sent : List ℕ) (p i : ℕ) → i < length sent
    → fill b p (drop i sent) ≡ fill (set b (p % 256) (get_or sent i 0)) (p + 1) (drop (i + 1) sent)
unfolding fill
fill_next b sent p i h =
    ap (fill b p) (drop-cons sent i 0 h)
    ∙ ap (λ (k : ℕ). fill (set b (p % 256) (get_or sent i 0)) (p + 1) (drop k sent)) (sym (add-one i))

-- the same, where the place of byte i is at + i
pub fill_on : (b sent : List ℕ) (at i : ℕ) → i < length sent
    → fill b (at + i) (drop i sent) ≡ fill (set b ((at + i) % 256) (get_or sent i 0)) (at + (i + 1)) (drop (i + 1) sent)
fill_on b sent at i h =
    let e : at + i + 1 ≡ at + (i + 1) = omega arith in
    fill_next b sent (at + i) i h ∙ ap (λ (q : ℕ). fill (set b ((at + i) % 256) (get_or sent i 0)) q (drop (i + 1) sent)) e

pub fill_end : (b sent : List ℕ) (p i : ℕ) → length sent ≤ i → fill b p (drop i sent) ≡ b
unfolding fill
fill_end b sent p i h = ap (fill b p) (drop_of_length-le sent h)

-- the data from a place on, or none where they end before it
pub data_from : (sent : List ℕ) (skip m : ℕ) → m ≡ min skip (length sent) → take (length sent - m) (drop m sent) ≡ drop skip sent
data_from sent skip m e = between_to_end sent m (length sent) (omega arith) ∙ go (dec_le skip (length sent))
  where
    go : Dec (skip ≤ length sent) → drop m sent ≡ drop skip sent
    go (yes h) = ap (λ (k : ℕ). drop k sent) (omega arith)
    go (no h) = drop_of_length-le sent (omega arith) ∙ sym (drop_of_length-le sent (omega arith))
