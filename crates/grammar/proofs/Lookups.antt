-- The table's rows, and the words' keys, read one by one. Assumes nothing.
use Prim.Native.Nat.{ℕ, zero, suc, ◌+◌, ◌-◌, ◌≤◌, ◌<◌, min}
use mathlib.Core.Path.{◌≡◌, refl, sym, ap, ◌∙◌}
use mathlib.Core.Bool.{true, false}
use mathlib.Core.List.{List, [], ◌∷◌, map}
use native.Mathlib.Numerals.{add-one}
use lib.Dec.{lit<}
use lib.ListN.{length, get_or, take, drop, drop_of_length-le}
use lib.Seq.{drop-cons}
use borrow.Author.Tests.{eq-eqb, ne_eqb}
use Rattle.std.specs.Prelude.{Some, None}
use Rattle.std.specs.Simd.{first_chunks}
use Rattle.std.proofs.lemmas.List.{get_or-take}
use Rattle.spelling.specs.declared.Word.{Word}
use Rattle.spelling.specs.Words.{key_with}
use Rattle.grammar.specs.Table.{row_in, rows_from, class_of, store_of, source_of, first_of, has_class, position, keys_from}

dropped : (l : List ℕ) (i : ℕ) → i < length l → drop i l ≡ get_or l i 0 ∷ drop (i + 1) l
dropped l i h = drop-cons l i 0 h ∙ ap (λ (n : ℕ). get_or l i 0 ∷ drop n l) (sym (add-one i))

-- ---- rows

-- a row is its six bytes, whatever stands behind them
row_of_six : (l : List ℕ) → row_in (take 6 l) ≡ row_in l
row_of_six l =
    λ i. record {
      place = get_or-take 6 l 0 0 (lit< tt) i - 48;
      entry = record { class = class_of (get_or-take 6 l 1 0 (lit< tt) i - 48); next = get_or-take 6 l 2 0 (lit< tt) i - 48; store = store_of (get_or-take 6 l 3 0 (lit< tt) i - 48); slot = get_or-take 6 l 4 0 (lit< tt) i - 48; source = source_of (get_or-take 6 l 5 0 (lit< tt) i - 48) };
    }

pub rows_are : (n : ℕ) (l : List ℕ) → rows_from n l ≡ map row_in (first_chunks 6 n l)
unfolding rows_from
rows_are zero l = refl
rows_are (suc n) l = λ i. sym (row_of_six l) i ∷ rows_are n (drop 6 l) i

-- the row at k, where a place and a word are looked up
module _ (rows : List (List ℕ)) (k p : ℕ) (w : Word) (m : ℕ) (below : k < length rows) where
  row_next : map row_in (drop k rows) ≡ row_in (get_or rows k []) ∷ map row_in (drop (k + 1) rows)
  row_next = ap (map row_in) (drop-cons rows k [] below ∙ ap (λ (n : ℕ). get_or rows k [] ∷ drop n rows) (sym (add-one k)))

  pub row_met : (row_in (get_or rows k [])).place ≡ p → has_class (row_in (get_or rows k [])).entry.class w m ≡ true
      → Some (row_in (get_or rows k [])).entry ≡ first_of (map row_in (drop k rows)) p w m
  unfolding first_of
  row_met e t = rw (row_next, eq-eqb _ _ e, t)

  pub other_place : ((row_in (get_or rows k [])).place ≡ p → ⊥) → first_of (map row_in (drop (k + 1) rows)) p w m ≡ first_of (map row_in (drop k rows)) p w m
  unfolding first_of
  other_place e = rw (row_next, ne_eqb _ _ e)

  pub other_class : (row_in (get_or rows k [])).place ≡ p → has_class (row_in (get_or rows k [])).entry.class w m ≡ false
      → first_of (map row_in (drop (k + 1) rows)) p w m ≡ first_of (map row_in (drop k rows)) p w m
  unfolding first_of
  other_class e t = rw (row_next, eq-eqb _ _ e, t)

pub rows_end : (rows : List (List ℕ)) (k p : ℕ) (w : Word) (m : ℕ) → length rows ≤ k → None ≡ first_of (map row_in (drop k rows)) p w m
unfolding first_of
rows_end rows k p w m h = rw (drop_of_length-le rows {i = k} h)

-- ---- keys

-- the byte at i of a text of words: a blank ends a word
module _ (l : List ℕ) (key n k i : ℕ) (below : i < length l) where
  pub letter : (get_or l i 0 ≡ 32 → ⊥) → position key n (keys_from (key_with k (get_or l i 0)) (drop (i + 1) l)) ≡ position key n (keys_from k (drop i l))
  unfolding keys_from
  letter b = rw (dropped l i below, ne_eqb _ _ b)

  pub key_met : get_or l i 0 ≡ 32 → k ≡ key → n ≡ position key n (keys_from k (drop i l))
  unfolding keys_from position
  key_met b e = rw (dropped l i below, eq-eqb _ _ b, eq-eqb _ _ e)

  pub key_passed : get_or l i 0 ≡ 32 → (k ≡ key → ⊥) → position key (min (n + 1) 255) (keys_from 1 (drop (i + 1) l)) ≡ position key n (keys_from k (drop i l))
  unfolding keys_from position
  key_passed b e = rw (dropped l i below, eq-eqb _ _ b, ne_eqb _ _ e)

pub keys_end : (l : List ℕ) (key n k i : ℕ) → length l ≤ i → 255 ≡ position key n (keys_from k (drop i l))
unfolding position keys_from
keys_end l key n k i h = rw (drop_of_length-le l {i = i} h)
