-- A row shows its text, and a number's digits are the number. Assumes nothing.
use Prim.Native.Nat.{ℕ, zero, suc, ◌+◌, ◌-◌, ◌*◌, ◌/◌, ◌%◌, ◌^◌, ◌≤◌, ◌<◌}
use mathlib.Core.Path.{◌≡◌, refl, sym, ap, ◌∙◌}
use mathlib.Core.Bool.{Bool, true, false}
use mathlib.Core.List.{List, [], ◌∷◌, ◌++◌, append-nil}
use native.Mathlib.Omega.{arith}
use native.Mathlib.Nat.{div-lt_iff_lt-mul, pow-suc}
use lib.Dec.{ltb}
use lib.ListN.{length, get_or, take, set, replicate, length-append}
use lib.Seq.{take-nil, take_all, take-append_seam, set-append_seam, append_snoc}
use borrow.Author.Tests.{lt-ltb, le-ltb, ltb-true, ltb-false}
use Rattle.rules.specs.Words.{pick}
use Rattle.writing.specs.declared.Row.{Row}
use Rattle.writing.specs.Rows.{blank, push, put, row, digits, decimal, hex_digit, hex}
use Rattle.writing.proofs.Laws.{row_length}

-- ---- a row

push_full : (r : Row) (b : ℕ) → 80 ≤ r.length → push r b ≡ r
unfolding push
push_full r b h = rw (le-ltb r.length 80 h)

push_text : (r : Row) (b : ℕ) → r.length < 80 → (push r b).text ≡ set r.text r.length b
unfolding push
push_text r b h = rw (lt-ltb r.length 80 h)

push_more : (r : Row) (b : ℕ) → r.length < 80 → (push r b).length ≡ r.length + 1
unfolding push
push_more r b h = rw (lt-ltb r.length 80 h)

-- a text behind a used part a and before k bytes of 0
filled : (t a : List ℕ) (k : ℕ) (r : Row) → r.text ≡ a ++ replicate k 0 → r.length ≡ length a → length a + k ≡ 80
    → (put r t).text ≡ a ++ take k t ++ replicate (k - length t) 0
unfolding put
filled [] a k r e l s =
    let z : k - 0 ≡ k = omega arith in
    e ∙ sym (ap (λ (x : List ℕ). a ++ x ++ replicate (k - 0) 0) (take-nil k) ∙ ap (λ (x : List ℕ). x ++ replicate (k - 0) 0) (append-nil a) ∙ ap (λ (n : ℕ). a ++ replicate n 0) z)
filled (b ∷ t) a zero r e l s =
    let z : 0 - length t ≡ 0 - suc (length t) = omega arith in
    ap (λ (q : Row). (put q t).text) (push_full r b (omega arith)) ∙ filled t a zero r e l s ∙ ap (λ (n : ℕ). a ++ [] ++ replicate n 0) z
filled (b ∷ t) a (suc k) r e l s =
    let n = length-append a (b ∷ []) in
    let z : k - length t ≡ suc k - suc (length t) = omega arith in
    let set-it : (push r b).text ≡ a ++ (b ∷ []) ++ replicate k 0 =
    push_text r b (omega arith) ∙ ap (λ (x : List ℕ). set x r.length b) e ∙ ap (λ (i : ℕ). set (a ++ 0 ∷ replicate k 0) i b) l
    ∙ set-append_seam a 0 (replicate k 0) b ∙ sym (append_snoc a b (replicate k 0)) in
    let p = push_more r b (omega arith) in
    filled t (a ++ (b ∷ [])) k (push r b) set-it (omega arith) (omega arith)
    ∙ ap (λ (x : List ℕ). x ++ replicate (k - length t) 0) (append_snoc a b (take k t))
    ∙ ap (λ (i : ℕ). a ++ (b ∷ take k t) ++ replicate i 0) z

-- the row of a text is the text, as much as finds room, and 0 behind it
pub row_text : (t : List ℕ) → (row t).text ≡ take 80 t ++ replicate (80 - length t) 0
unfolding blank
row_text t = filled t [] 80 blank refl refl refl

-- a text of at most 80 bytes is what its row shows
pub shows : (t : List ℕ) → length t ≤ 80 → take (row t).length (row t).text ≡ t
shows t h =
    let e : (row t).length ≡ length t = row_length t ∙ omega arith in
    ap (λ (n : ℕ). take n (row t).text) e ∙ ap (λ (x : List ℕ). take (length t) x) (row_text t ∙ ap (λ (x : List ℕ). x ++ replicate (80 - length t) 0) (take_all 80 t h))
    ∙ take-append_seam t (replicate (80 - length t) 0)

-- ---- numbers

-- what a digit stands for
unfoldable pub worth : ℕ → ℕ
worth d = pick (ltb d 0x3A) (d - 0x30) (d - 0x37)

-- the number that digits of a base stand for, behind one that was read before them
unfoldable pub value : ℕ → ℕ → List ℕ → ℕ
value base n [] = n
value base n (d ∷ ds) = value base (n * base + worth d) ds

value_last : (base n d : ℕ) (ds : List ℕ) → value base n (ds ++ (d ∷ [])) ≡ value base n ds * base + worth d
unfolding value
value_last base n d [] = refl
value_last base n d (x ∷ ds) = value_last base (n * base + worth x) d ds

worth_digit : (n : ℕ) → n < 10 → worth (0x30 + n) ≡ n
unfolding worth
worth_digit n h = rw (lt-ltb (0x30 + n) 0x3A (omega arith)) (omega arith)

worth_hex : (n : ℕ) → n < 16 → worth (hex_digit n) ≡ n
unfolding worth hex_digit
worth_hex n h = go (ltb n 10) refl
  where
    go : (b : Bool) → ltb n 10 ≡ b → worth (hex_digit n) ≡ n
    go true e =
        let k = ltb-true n 10 e in
        rw (e, lt-ltb (0x30 + n) 0x3A (omega arith)) (omega arith)
    go false e =
        let k = ltb-false n 10 e in
        rw (e, le-ltb (0x37 + n) 0x3A (omega arith)) (omega arith)

-- k digits are the number, if it has no more
pub hex_value : (k n : ℕ) → n < 16 ^ k → value 16 0 (hex k n) ≡ n
unfolding hex value
hex_value zero n h = omega arith
hex_value (suc k) n h =
    let q : n < 16 ^ k * 16 = rw pow-suc at h in
    let e = hex_value k (n / 16) ((div-lt_iff_lt-mul {k = 16} {x = n} {y = 16 ^ k} (omega arith)).1 q) in
    let w = worth_hex (n % 16) (omega arith) in
    value_last 16 0 (hex_digit (n % 16)) (hex k (n / 16)) ∙ ap (λ (x : ℕ). x * 16 + worth (hex_digit (n % 16))) e ∙ omega arith

pub digits_value : (k n : ℕ) → n < 10 ^ k → value 10 0 (digits k n) ≡ n
unfolding digits value
digits_value zero n h = omega arith
digits_value (suc k) n h =
    let q : n < 10 ^ k * 10 = rw pow-suc at h in
    go (ltb n 10) refl (digits_value k (n / 10) ((div-lt_iff_lt-mul {k = 10} {x = n} {y = 10 ^ k} (omega arith)).1 q))
  where
    go : (b : Bool) → ltb n 10 ≡ b → value 10 0 (digits k (n / 10)) ≡ n / 10 → value 10 0 (digits (suc k) n) ≡ n
    go true e v =
        let w = worth_digit n (ltb-true n 10 e) in
        rw e (omega arith)
    go false e v =
        let w = worth_digit (n % 10) (omega arith) in
        rw e (value_last 10 0 (0x30 + n % 10) (digits k (n / 10)) ∙ ap (λ (x : ℕ). x * 10 + worth (0x30 + n % 10)) v ∙ omega arith)

-- every number of 64 bits
pub decimal_value : (n : ℕ) → n < 2 ^ 64 → value 10 0 (decimal n) ≡ n
decimal_value n h = digits_value 20 n (omega arith)

first_stays : (l m : List ℕ) → 0x30 < get_or l 0 0 → get_or (l ++ m) 0 0 ≡ get_or l 0 0
first_stays [] m h = absurd (omega arith)
first_stays (x ∷ l) m h = refl

-- the first digit of a number above 0 is not 0
pub no_zero_leads : (k n : ℕ) → 0 < n → n < 10 ^ k → 0x30 < get_or (digits k n) 0 0
unfolding digits
no_zero_leads zero n p h = absurd (omega arith)
no_zero_leads (suc k) n p h =
    let q : n < 10 ^ k * 10 = rw pow-suc at h in
    go (ltb n 10) refl (λ some. no_zero_leads k (n / 10) some ((div-lt_iff_lt-mul {k = 10} {x = n} {y = 10 ^ k} (omega arith)).1 q))
  where
    go : (b : Bool) → ltb n 10 ≡ b → (0 < n / 10 → 0x30 < get_or (digits k (n / 10)) 0 0) → 0x30 < get_or (digits (suc k) n) 0 0
    go true e f = rw e (omega arith)
    go false e f =
        let low = ltb-false n 10 e in
        let first = f (omega arith) in
        let same = first_stays (digits k (n / 10)) ((0x30 + n % 10) ∷ []) first in
        rw (e, same) first
