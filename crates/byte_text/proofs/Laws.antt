-- What stands behind a row once each of some bytes is put there in turn. Assumes nothing.
use Rattle.std.proofs.Common.{◌≡◌, ℕ, zero, suc, ◌+◌, ◌<◌, ◌≤◌, List, [], ◌∷◌, length, get_or, take, drop, refl, sym, ap, ◌∙◌, add-one, arith, get_or-drop, get_or-take, length-drop, length-take}
use Rattle.std.specs.List.{fold}
use Rattle.std.proofs.lemmas.List.{take_all}
use Rattle.std.proofs.lemmas.List.Sums.{fold_more}
use Rattle.writing.specs.declared.Row.{Row}
use Rattle.writing.specs.Rows.{push, put, hex}
use Rattle.writing.proofs.Laws.{then, then_one, nothing_more}
use Rattle.byte_text.specs.Bytes.{within, bytes, known, marked, printed, letters}

-- a text grows by each item: n + 1 for n
folds_to : {X : Type 0} (step : Row → X → Row) (text : ℕ → List ℕ) (xs : List X) (d : X) (r : Row) → text 0 ≡ []
    → ((n : ℕ) → n < length xs → (q : Row) → q ≡ put r (text n) → step q (get_or xs n d) ≡ put r (text (n + 1)))
    → (n : ℕ) → n ≤ length xs → fold step r (take n xs) ≡ put r (text n)
folds_to step text xs d r none next zero h = nothing_more r ∙ ap (put r) (sym none)
folds_to step text xs d r none next (suc n) h =
    let before = folds_to step text xs d r none next n (omega arith) in
    ap (λ (k : ℕ). fold step r (take k xs)) (sym (add-one n)) ∙ fold_more step r xs n d (omega arith)
    ∙ next n (omega arith) (fold step r (take n xs)) before ∙ ap (λ (k : ℕ). put r (text k)) (add-one n)

folds : {X : Type 0} (step : Row → X → Row) (text : ℕ → List ℕ) (xs : List X) (d : X) (r : Row) → text 0 ≡ []
    → ((n : ℕ) → n < length xs → (q : Row) → q ≡ put r (text n) → step q (get_or xs n d) ≡ put r (text (n + 1)))
    → fold step r xs ≡ put r (text (length xs))
folds step text xs d r none next =
    ap (fold step r) (sym (take_all (length xs) xs (omega arith))) ∙ folds_to step text xs d r none next (length xs) (omega arith)

-- ---- at most `most` bytes from a place on

part_length : (l : List ℕ) (from most : ℕ) → length (take most (drop from l)) ≡ within (length l) from most
part_length l from most = omega (arith, length-take most (drop from l), length-drop from l)

part_byte : (l : List ℕ) (from most n : ℕ) → n < length (take most (drop from l)) → get_or (take most (drop from l)) n 0 ≡ get_or l (from + n) 0
part_byte l from most n h =
    let k : n < most = omega (arith, length-take most (drop from l)) in
    get_or-take most (drop from l) n 0 k ∙ get_or-drop from l n 0

-- ---- the three texts

abbrev pub plain_step : Row → ℕ → Row
plain_step q b = put (push q 0x20) (hex 2 b)

abbrev pub printed_step : Row → ℕ → Row
printed_step q b = push q (printed b)

pub plain_is : (r s : Row) (l : List ℕ) (from most : ℕ) → s ≡ fold plain_step r (take most (drop from l))
    → s ≡ put r (bytes l from (within (length l) from most))
unfolding bytes put
plain_is r s l from most e =
    let xs = take most (drop from l) in
    e ∙ folds plain_step (bytes l from) xs 0 r refl
    (λ n h q f. then r q _ (bytes l from n) (0x20 ∷ hex 2 (get_or l (from + n) 0)) f (ap (plain_step q) (part_byte l from most n h)) ∙ ap (λ (k : ℕ). put r (bytes l from k)) (sym (add-one n)))
    ∙ ap (λ (k : ℕ). put r (bytes l from k)) (part_length l from most)

pub printed_is : (r s : Row) (l : List ℕ) (from most : ℕ) → s ≡ fold printed_step r (take most (drop from l))
    → s ≡ put r (letters l from (within (length l) from most))
unfolding letters put
printed_is r s l from most e =
    let xs = take most (drop from l) in
    e ∙ folds printed_step (letters l from) xs 0 r refl
    (λ n h q f. then_one r q _ (letters l from n) (printed (get_or l (from + n) 0)) f (ap (printed_step q) (part_byte l from most n h)) ∙ ap (λ (k : ℕ). put r (letters l from k)) (sym (add-one n)))
    ∙ ap (λ (k : ℕ). put r (letters l from k)) (part_length l from most)

pub marked_none : (r : Row) (l m : List ℕ) (from : ℕ) → r ≡ put r (marked l m from 0)
unfolding marked
marked_none r l m from = nothing_more r

-- one more of two pieces
pub marked_next : (r q p s : Row) (l m : List ℕ) (from most n b k : ℕ) → q ≡ put r (marked l m from n) → p ≡ push q 0x20 → s ≡ put p (known b k)
    → n < length (take most (drop from l)) → n < length (take most (drop from m)) → b ≡ get_or (take most (drop from l)) n 0 → k ≡ get_or (take most (drop from m)) n 0
    → s ≡ put r (marked l m from (n + 1))
unfolding marked put
marked_next r q p s l m from most n b k e f g hl hm eb ek =
    let x = get_or l (from + n) 0 in
    let y = get_or m (from + n) 0 in
    then r q s (marked l m from n) (0x20 ∷ known x y) e
    (g ∙ ap (λ (z : ℕ). put p (known z k)) (eb ∙ part_byte l from most n hl) ∙ ap (λ (z : ℕ). put p (known x z)) (ek ∙ part_byte m from most n hm) ∙ ap (λ (z : Row). put z (known x y)) f)
    ∙ ap (λ (i : ℕ). put r (marked l m from i)) (sym (add-one n))
