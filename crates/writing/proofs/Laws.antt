-- What is put behind a row in two steps is put there in one. Assumes nothing.
use Prim.Native.Nat.{ℕ, zero, suc, ◌+◌, ◌-◌, ◌/◌, ◌%◌, ◌*◌, ◌^◌, ◌≤◌, ◌<◌, min}
use mathlib.Core.Path.{◌≡◌, refl, sym, ap, ◌∙◌}
use mathlib.Core.Bool.{Bool, true, false}
use mathlib.Core.List.{List, [], ◌∷◌, ◌++◌}
use native.Mathlib.Omega.{arith}
use native.Mathlib.Numerals.{add-one}
use native.Mathlib.Nat.{div-lt_iff_lt-mul, pow-suc}
use lib.Dec.{ltb}
use lib.ListN.{length, get_or, take, replicate-append-replicate}
use lib.Seq.{take-suc}
use borrow.Author.Tests.{lt-ltb, le-ltb, ltb-true, ltb-false}
use Rattle.rules.specs.Words.{pick}
use Rattle.writing.specs.declared.Row.{Row}
use Rattle.writing.specs.Rows.{blank, push, put, row, blanks, digits, decimal, hex_digit, hex}

pub put_append : (r : Row) (a b : List ℕ) → put (put r a) b ≡ put r (a ++ b)
unfolding put
put_append r [] b = refl
put_append r (x ∷ a) b = put_append (push r x) a b

-- two steps, each by its own contract
pub then : (r q s : Row) (a b : List ℕ) → q ≡ put r a → s ≡ put q b → s ≡ put r (a ++ b)
then r q s a b e f = f ∙ ap (λ (x : Row). put x b) e ∙ put_append r a b

-- one byte more
pub then_one : (r q s : Row) (a : List ℕ) (b : ℕ) → q ≡ put r a → s ≡ push q b → s ≡ put r (a ++ (b ∷ []))
unfolding put
then_one r q s a b e f = then r q s a (b ∷ []) e f

pub nothing_more : (r : Row) → r ≡ put r []
unfolding put
nothing_more r = refl

-- a step of each loop: i + 1 for i

pub text_next : (r q s : Row) (t : List ℕ) (i : ℕ) → i < length t → q ≡ put r (take i t) → s ≡ push q (get_or t i 0) → s ≡ put r (take (i + 1) t)
text_next r q s t i h e f = then_one r q s (take i t) (get_or t i 0) e f ∙ ap (λ (x : List ℕ). put r x) (sym (take-suc t i 0 h) ∙ ap (λ (k : ℕ). take k t) (sym (add-one i)))

pub blanks_next : (r q s : Row) (i : ℕ) → q ≡ put r (blanks i) → s ≡ push q 0x20 → s ≡ put r (blanks (i + 1))
unfolding blanks
blanks_next r q s i e f = then_one r q s (blanks i) 0x20 e f ∙ ap (λ (x : List ℕ). put r x) (replicate-append-replicate i 1 0x20)

-- ---- digits, by one digit fewer

pub hex_none : (r : Row) (k n : ℕ) → k ≡ 0 → r ≡ put r (hex k n)
unfolding hex
hex_none r k n e = nothing_more r ∙ ap (λ (j : ℕ). put r (hex j n)) (sym e)

pub hex_step : (r q s : Row) (k n d : ℕ) → (k ≡ 0 → ⊥) → q ≡ put r (hex (k - 1) (n / 16)) → d ≡ hex_digit (n % 16) → s ≡ push q d → s ≡ put r (hex k n)
unfolding hex
hex_step r q s zero n d h e f g = absurd (h refl)
hex_step r q s (suc k) n d h e f g =
    let p : suc k - 1 ≡ k = omega arith in
    then_one r q s (hex k (n / 16)) (hex_digit (n % 16)) (e ∙ ap (λ (j : ℕ). put r (hex j (n / 16))) p) (g ∙ ap (λ (x : ℕ). push q x) f)

-- one digit more is none where the number has room in those before it
digits_room : (k n : ℕ) → n < 10 ^ suc k → digits (suc k) n ≡ digits (suc (suc k)) n
unfolding digits
digits_room zero n l = rw (lt-ltb n 10 (omega arith)) refl
digits_room (suc k) n l =
    let q : n < 10 ^ suc k * 10 = rw pow-suc at l in
    let e = digits_room k (n / 10) ((div-lt_iff_lt-mul {k = 10} {x = n} {y = 10 ^ suc k} (omega arith)).1 q) in
    ap (λ (x : List ℕ). pick (ltb n 10) ((0x30 + n) ∷ []) (x ++ ((0x30 + n % 10) ∷ []))) e

-- digits without a bound on how many: a number below 10 ^ 20, as every one of 64 bits is

pub decimal_low : (r s : Row) (n : ℕ) → n < 10 → s ≡ push r (0x30 + n) → s ≡ put r (decimal n)
unfolding digits put
decimal_low r s n l g = rw (lt-ltb n 10 l) g

pub decimal_step : (r q s : Row) (n : ℕ) → 10 ≤ n → n < 2 ^ 64 → q ≡ put r (decimal (n / 10)) → s ≡ push q (0x30 + n % 10) → s ≡ put r (decimal n)
unfolding digits
decimal_step r q s n l h e g =
    let room : digits 19 (n / 10) ≡ digits 20 (n / 10) = digits_room 18 (n / 10) (omega arith) in
    rw (le-ltb n 10 l) (then_one r q s (digits 19 (n / 10)) (0x30 + n % 10) (e ∙ ap (λ (x : List ℕ). put r x) (sym room)) g)

-- ---- how long a row is

pub push_length : (r : Row) (b : ℕ) → r.length ≤ 80 → (push r b).length ≡ min (r.length + 1) 80
unfolding push
push_length r b h = go (ltb r.length 80) refl
  where
    go : (t : Bool) → ltb r.length 80 ≡ t → (push r b).length ≡ min (r.length + 1) 80
    go true e = let k = ltb-true r.length 80 e in rw e (omega arith)
    go false e = let k = ltb-false r.length 80 e in rw e (omega arith)

pub put_length : (r : Row) (t : List ℕ) → r.length ≤ 80 → (put r t).length ≡ min (r.length + length t) 80
unfolding put
put_length r [] h = omega arith
put_length r (b ∷ t) h =
    let e = push_length r b h in
    put_length (push r b) t (omega arith) ∙ omega arith

-- the row of a text is as long as the text, up to 80
pub row_length : (t : List ℕ) → (row t).length ≡ min (length t) 80
unfolding blank
row_length t = put_length blank t (omega arith) ∙ omega arith
