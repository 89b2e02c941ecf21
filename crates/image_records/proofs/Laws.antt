-- Two bytes of a list, a sum that goes on, and bytes put into a list. Assumes nothing.
use Rattle.std.proofs.Common.{◌≡◌, refl, ℕ, suc, ◌+◌, ◌-◌, ◌*◌, ◌/◌, ◌%◌, ◌<◌, ◌≤◌, List, [], ◌∷◌, ◌++◌, length, get_or, take, drop, sym, ap, ◌∙◌, append_assoc, append-nil, add-mul, arith, length-append, length-drop, take-append-drop, length-take-le, get_or-drop, take_all, drop-cons, get_or-take, take-take, drop-drop, take_at, ext_get_or, take-add, drop_at}
use borrow.Rule.Slice.PartMut.{put_mid}
use lib.Seq.{paste, take-paste, take-append-le, length_paste_head}
use Rattle.std.specs.List.{fold}
use Rattle.memory.specs.Patched.{Patched}
use Rattle.image.specs.Form.{high_first, number, total, sum, joined}
use Rattle.image.specs.Files.{part, body_in}
use Rattle.image.proofs.Bytes.{length_high, number_two}
use Rattle.image.proofs.Parts.{drop_take, length_part}

pub number_at : (l : List ℕ) (at : ℕ) → at + 2 ≤ length l → get_or l at 0 * 256 + get_or l (at + 1) 0 ≡ number (part l at 2)
number_at l at h =
    let e : suc at ≡ at + 1 = omega arith in
    let p : part l at 2 ≡ get_or l at 0 ∷ get_or l (at + 1) 0 ∷ [] =
    ap (take 2) (drop-cons l at 0 (omega arith))
    ∙ ap (λ r. get_or l at 0 ∷ take 1 r) (drop-cons l (suc at) 0 (omega arith))
    ∙ ap (λ k. get_or l at 0 ∷ get_or l k 0 ∷ []) e in
    let z : 0 * 65536 + (get_or l at 0 * 256 + get_or l (at + 1) 0) ≡ get_or l at 0 * 256 + get_or l (at + 1) 0 = omega arith in
    sym (ap number p ∙ number_two 0 (get_or l at 0) (get_or l (at + 1) 0) ∙ z)

-- n bytes copied over a part of n bytes
pub copied : (l s : List ℕ) (at n k : ℕ) → k ≡ n → length s ≡ n → put_mid at k l s ≡ paste l at s n
copied l s at n k e size =
    rw e
    ((λ i. take at l ++ (sym (take_all n s (omega arith)) i ++ drop-drop n at l i))
    ∙ sym (append_assoc (take at l) (take n s) (drop (at + n) l)))

-- the two low bytes of a number
pub put_two : (l : List ℕ) (at x k : ℕ) → k ≡ 2 → put_mid at k l (x % 65536 / 256 % 256 ∷ x % 65536 % 256 ∷ []) ≡ paste l at (high_first 2 x) 2
unfolding high_first
put_two l at x k e =
    let a : x % 65536 / 256 % 256 ≡ x / 256 % 256 = omega arith in
    let b : x % 65536 % 256 ≡ x % 256 = omega arith in
    copied l (x % 65536 / 256 % 256 ∷ x % 65536 % 256 ∷ []) at 2 k e refl ∙ (λ i. paste l at (a i ∷ b i ∷ []) 2)

-- ---- a sum

-- additions that wrap give the sum
sum_on : (s : ℕ) (l : List ℕ) → s < 65536 → fold (λ a b. (a + b) % 65536) s l ≡ (s + total l) % 65536
unfolding total
sum_on s [] h = omega arith
sum_on s (b ∷ l) h = sum_on ((s + b) % 65536) l (omega arith) ∙ omega arith

pub sum_wraps : (l : List ℕ) → fold (λ a b. (a + b) % 65536) 0 l ≡ sum l
sum_wraps l = let e : 0 + total l ≡ total l = omega arith in sum_on 0 l (omega arith) ∙ ap (λ n. n % 65536) e

-- ---- bytes put into a list

-- before them and behind them all is as it was, and they stand there
pub paste_before : (d : List ℕ) (at : ℕ) (s : List ℕ) (n m : ℕ) → at ≤ length d → m ≤ at → take m (paste d at s n) ≡ take m d
paste_before d at s n m fits h =
    let size = length-take-le at d fits in
    rw append_assoc (take-append-le m (take at d) (take n s ++ drop (at + n) d) (omega arith) ∙ take-take m at d h)

pub paste_behind : (d : List ℕ) (at : ℕ) (s : List ℕ) (n m : ℕ) → at ≤ length d → n ≤ length s → at + n ≤ m → drop m (paste d at s n) ≡ drop m d
paste_behind d at s n m fits long h =
    let e : m ≡ at + n + (m - (at + n)) = omega arith in
    rw e
    (sym (drop-drop (m - (at + n)) (at + n) (paste d at s n))
    ∙ ap (drop (m - (at + n))) (drop_at (take at d ++ take n s) (drop (at + n) d) (at + n) (length_paste_head d at s n fits long))
    ∙ drop-drop (m - (at + n)) (at + n) d)

pub paste_there : (d : List ℕ) (at : ℕ) (s : List ℕ) (n : ℕ) → at ≤ length d → n ≤ length s → part (paste d at s n) at n ≡ take n s
paste_there d at s n fits long =
    rw append_assoc
    (ap (take n) (drop_at (take at d) (take n s ++ drop (at + n) d) at (length-take-le at d fits))
    ∙ take_at (take n s) (drop (at + n) d) n (length-take-le n s long))

-- a part that lies before them, or behind them
pub part_before : (d : List ℕ) (at : ℕ) (s : List ℕ) (n i m : ℕ) → at ≤ length d → i + m ≤ at → part (paste d at s n) i m ≡ part d i m
part_before d at s n i m fits h = sym (front (paste d at s n)) ∙ ap (drop i) (paste_before d at s n (i + m) fits h) ∙ front d
  where
    front : (l : List ℕ) → drop i (take (i + m) l) ≡ part l i m
    front l = drop_take i m l

pub part_behind : (d : List ℕ) (at : ℕ) (s : List ℕ) (n i m : ℕ) → at ≤ length d → n ≤ length s → at + n ≤ i → part (paste d at s n) i m ≡ part d i m
part_behind d at s n i m fits long h = ap (take m) (paste_behind d at s n i fits long h)

-- what is put over it all that counts
pub paste_over : (d e : List ℕ) (at : ℕ) (s : List ℕ) (n : ℕ) → take at d ≡ take at e → drop (at + n) d ≡ drop (at + n) e → paste d at s n ≡ paste e at s n
paste_over d e at s n p q = λ i. p i ++ take n s ++ q i

-- a mark in front of a body of n bytes, and the sum s behind it
pub sealed : (l : List ℕ) (at n mark s : ℕ) → at + (n + 4) ≤ length l → s ≡ sum (part (paste l at (high_first 2 mark) 2) (at + 2) (at + 2 + n - (at + 2)))
    → paste (paste l at (high_first 2 mark) 2) (at + 2 + n) (high_first 2 s) 2 ≡ paste l at (high_first 2 mark ++ body_in l at n ++ high_first 2 (sum (body_in l at n))) (n + 4)
sealed l at n mark s fits e =
    let m = length_high 2 mark in
    let k : at + 2 + n - (at + 2) ≡ n = omega arith in
    let body : part (paste l at (high_first 2 mark) 2) (at + 2) n ≡ part l (at + 2) n = part_behind l at (high_first 2 mark) 2 (at + 2) n (omega arith) (omega arith) (omega arith) in
    let s-is : s ≡ sum (body_in l at n) = e ∙ (rw (k, body)) in
    let h = length_high 2 (sum (body_in l at n)) in
    let b : length (body_in l at n) ≡ n = length_part l (at + 2) n (omega arith) in
    let whole : length (high_first 2 mark ++ body_in l at n ++ high_first 2 (sum (body_in l at n))) ≡ n + 4 = rw (length-append, length-append, m, b, h) (omega arith) in
    let front : take (at + 2 + n) (paste l at (high_first 2 mark) 2) ≡ take at l ++ high_first 2 mark ++ body_in l at n =
    take-add (at + 2) n (paste l at (high_first 2 mark) 2)
    ∙ (λ i. (take-paste l at (high_first 2 mark) 2 (omega arith) (omega arith) ∙ ap (λ r. take at l ++ r) (take_all 2 (high_first 2 mark) (omega arith))) i ++ body i) in
    let end : drop (at + 2 + n + 2) (paste l at (high_first 2 mark) 2) ≡ drop (at + (n + 4)) l =
    (let j : at + 2 + n + 2 ≡ at + (n + 4) = omega arith in
    paste_behind l at (high_first 2 mark) 2 (at + 2 + n + 2) (omega arith) (omega arith) (omega arith) ∙ ap (λ k. drop k l) j) in
    rw s-is (λ i. front i ++ take_all 2 (high_first 2 (sum (body_in l at n))) (omega arith) i ++ end i)
    ∙ (λ i. joined_left i ++ drop (at + (n + 4)) l)
    ∙ (λ i. take at l ++ sym (take_all (n + 4) (high_first 2 mark ++ body_in l at n ++ high_first 2 (sum (body_in l at n))) (omega arith)) i ++ drop (at + (n + 4)) l)
  where
    joined_left : take at l ++ high_first 2 mark ++ body_in l at n ++ high_first 2 (sum (body_in l at n)) ≡ take at l ++ (high_first 2 mark ++ body_in l at n ++ high_first 2 (sum (body_in l at n)))
    joined_left = rw (append_assoc, append_assoc, append_assoc)

-- a copy
pub paste_patched : (l l₀ src : List ℕ) (at n from : ℕ) → at + n ≤ length l₀ → from + n ≤ length src → Patched l l₀ at n (λ i. get_or src (from + i) 0)
    → l ≡ paste l₀ at (part src from n) n
paste_patched l l₀ src at n from fits long p =
    sym (take-append-drop (at + n) l)
    ∙ (λ i. take-add at n l i ++ drop (at + n) l)
    ∙ (λ i. front i ++ inside i ++ behind i)
    ∙ (λ i. take at l₀ ++ sym (take_all n (part src from n) (let s = length_part src from n long in omega arith)) i ++ drop (at + n) l₀)
  where
    size : length l ≡ length l₀
    size = p.size

    front : take at l ≡ take at l₀
    front =
        let s = size in
        let a = length-take-le at l (omega arith) in
        let b = length-take-le at l₀ (omega arith) in
        ext_get_or 0 (take at l) (take at l₀) (a ∙ sym b)
        (λ i h. let k : i < at = omega arith in get_or-take at l i 0 k ∙ p.before i k ∙ sym (get_or-take at l₀ i 0 k))

    inside : take n (drop at l) ≡ part src from n
    inside =
        let s = size in
        let a = length_part l at n (omega arith) in
        let b = length_part src from n long in
        ext_get_or 0 (take n (drop at l)) (part src from n) (a ∙ sym b)
        (λ i h. let k : i < n = omega arith in get_or-take n (drop at l) i 0 k ∙ get_or-drop at l i 0 ∙ p.inside i k ∙ sym (get_or-drop from src i 0) ∙ sym (get_or-take n (drop from src) i 0 k))

    behind : drop (at + n) l ≡ drop (at + n) l₀
    behind =
        let s = size in
        ext_get_or 0 (drop (at + n) l) (drop (at + n) l₀) (length-drop (at + n) l ∙ ap (λ k. k - (at + n)) s ∙ sym (length-drop (at + n) l₀))
        (λ i h. get_or-drop (at + n) l i 0 ∙ p.after (at + n + i) (omega arith) ∙ sym (get_or-drop (at + n) l₀ i 0))

-- ---- pieces put one after the other, behind b bytes that were there

pub pieces_none : (l : List ℕ) (f : ℕ → List ℕ) (b k : ℕ) → take (b + 0 * k) l ≡ take b l ++ joined f 0
unfolding joined
pieces_none l f b k = let e : b + 0 * k ≡ b = omega arith in rw e (sym (append-nil (take b l)))

pub pieces_more : (l l₀ : List ℕ) (f : ℕ → List ℕ) (b k n : ℕ) → b + n * k ≤ length l → length (f n) ≡ k → take (b + n * k) l ≡ take b l₀ ++ joined f n
    → take (b + (n + 1) * k) (paste l (b + n * k) (f n) k) ≡ take b l₀ ++ joined f (n + 1)
unfolding joined
pieces_more l l₀ f b k n fits size e =
    let j : b + (n + 1) * k ≡ b + n * k + k = (let m = add-mul n 1 k in omega arith) in
    let s : n + 1 ≡ suc n = omega arith in
    rw j (take-paste l (b + n * k) (f n) k fits (omega arith))
    ∙ (λ i. e i ++ take_all k (f n) (omega arith) i)
    ∙ append_assoc (take b l₀) (joined f n) (f n)
    ∙ (λ i. take b l₀ ++ joined f (sym s i))
