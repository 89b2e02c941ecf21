-- A record of a file, and its parts. Assumes nothing.
use Prim.Native.Nat.{ℕ, ◌+◌, ◌≤◌, ◌<◌}
use Prim.Native.String.{String}
use mathlib.Core.Path.{◌≡◌, sym, ap, ◌∙◌}
use mathlib.Core.Bool.{true}
use mathlib.Core.List.{List, ◌++◌, append_assoc}
use native.Mathlib.Omega.{arith}
use lib.Dec.{eqb}
use native.Mathlib.Decide.{dec_lt}
use lib.ListN.{length, get_or, take, drop, length-append, length-take, get_or-eq_default}
use lib.Seq.{take_at, drop_at, take_all, get_or-take, get_or-drop}
use borrow.Author.Tests.{eqb-true, eq-eqb}
use Rattle.rules.specs.Texts.{ascii}
use Rattle.rules.proofs.Bools.{and_split, and_both}
use Rattle.image.specs.Form.{high_first, number, sum, record_of}
use Rattle.image.specs.Files.{part, mark_in, sum_in, body_in, record_right}
use Rattle.image.specs.Laws.{OfBytes}
use Rattle.image.proofs.Bytes.{length_high, number_high, high_number, number_one}
use Rattle.image.proofs.Parts.{length_part, part_part, part_add}

-- what a mark is: two bytes
pub record IsMark (mark : String) : Type 0 where
  pub two : length (ascii mark) ≡ 2
  pub bytes : OfBytes (ascii mark)

pub length_record : (mark : String) (body : List ℕ) → IsMark mark → length (record_of mark body) ≡ length body + 4
unfolding record_of
length_record mark body m =
    let two = m.two in
    let high = length_high 2 (sum body) in
    rw (length-append, length-append, high, two) (omega arith)

-- the three parts of a record
pub record_parts : (mark : String) (body : List ℕ) (n : ℕ) → IsMark mark → length body ≡ n
    → (part (record_of mark body) 0 2 ≡ ascii mark) × ((part (record_of mark body) 2 n ≡ body) × (part (record_of mark body) (2 + n) 2 ≡ high_first 2 (sum body)))
unfolding record_of
record_parts mark body n m e =
    let s = high_first 2 (sum body) in
    let size : length (ascii mark ++ body) ≡ 2 + n = (let two = m.two in rw (length-append, two, e)) in
    let whole : ascii mark ++ body ++ s ≡ ascii mark ++ (body ++ s) = append_assoc (ascii mark) body s in
    let behind : drop 2 (ascii mark ++ body ++ s) ≡ body ++ s = rw whole (drop_at (ascii mark) (body ++ s) 2 m.two) in (
      rw whole (take_at (ascii mark) (body ++ s) 2 m.two),
      (
        ap (take n) behind ∙ take_at body s n e,
        ap (take 2) (drop_at (ascii mark ++ body) s (2 + n) size) ∙ take_all 2 s (let high = length_high 2 (sum body) in omega arith),
      ),
    )

-- where a record stands in a list, it is right there, and its body is its own
pub record_there : (mark : String) (body l : List ℕ) (at n : ℕ) → IsMark mark → length body ≡ n → part l at (n + 4) ≡ record_of mark body
    → (record_right mark l at n ≡ true) × (body_in l at n ≡ body)
unfolding record_right
record_there mark body l at n m e h =
    let p = record_parts mark body n m e in
    let mark-is : part l at 2 ≡ ascii mark =
    (let z : at + 0 ≡ at = omega arith in (rw z at (sym (part_part l at (n + 4) 0 2 (omega arith)))) ∙ ap (λ r. part r 0 2) h ∙ p.0) in
    let body_is : part l (at + 2) n ≡ body = sym (part_part l at (n + 4) 2 n (omega arith)) ∙ ap (λ r. part r 2 n) h ∙ p.1.0 in
    let sum_is : part l (at + 2 + n) 2 ≡ high_first 2 (sum body) =
    (let z : at + (2 + n) ≡ at + 2 + n = omega arith in (rw z at (sym (part_part l at (n + 4) (2 + n) 2 (omega arith)))) ∙ ap (λ r. part r (2 + n) 2) h ∙ p.1.1) in (
      and_both
          (eq-eqb _ _ (ap number mark-is))
          (eq-eqb _ _ (ap number sum_is ∙ number_high 2 (sum body) (omega arith) ∙ sym (ap sum body_is))),
      body_is,
    )

-- parts of bytes are bytes
pub part_bytes : (l : List ℕ) (at n : ℕ) → OfBytes l → OfBytes (part l at n)
part_bytes l at n h i = go (dec_lt i n)
  where
    go : Dec (i < n) → get_or (part l at n) i 0 < 256
    go (yes below) = let s = h (at + i) in rw (get_or-take n (drop at l) i 0 below, get_or-drop at l i 0) s
    go (no q) = rw (get_or-eq_default (part l at n) 0 {n = i} (let k = length-take n (drop at l) in omega arith)) (omega arith)

-- a record that is right is the record of its body
pub right_record : (mark : String) (l : List ℕ) (at n : ℕ) → IsMark mark → OfBytes l → at + (n + 4) ≤ length l → record_right mark l at n ≡ true
    → part l at (n + 4) ≡ record_of mark (body_in l at n)
unfolding record_right record_of
right_record mark l at n m small fits e =
    let t = and_split (eqb (mark_in l at) (number (ascii mark))) (eqb (sum_in l at n) (sum (body_in l at n))) e in
    let mark-is : part l at 2 ≡ ascii mark =
    number_one (part l at 2) (ascii mark) (length_part l at 2 (omega arith) ∙ sym m.two) (part_bytes l at 2 small) m.bytes (eqb-true _ _ t.0) in
    let sum_is : part l (at + 2 + n) 2 ≡ high_first 2 (sum (body_in l at n)) =
    sym (high_number 2 (part l (at + 2 + n) 2) (length_part l (at + 2 + n) 2 (omega arith)) (part_bytes l (at + 2 + n) 2 small)) ∙ ap (high_first 2) (eqb-true _ _ t.1) in
    let z : n + 4 ≡ 2 + n + 2 = omega arith in
    let y : at + (2 + n) ≡ at + 2 + n = omega arith in
    rw z (part_add l at (2 + n) 2 ∙ (λ i. part_add l at 2 n i ++ part l (y i) 2) ∙ (λ i. mark-is i ++ body_in l at n ++ sum_is i))
