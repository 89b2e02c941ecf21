-- Numbers in bytes: each goes back to what it came from. Assumes nothing.
use Prim.Native.Nat.{ℕ, zero, suc, ◌+◌, ◌*◌, ◌/◌, ◌%◌, ◌^◌, ◌≤◌, ◌<◌}
use mathlib.Core.Path.{◌≡◌, refl, sym}
use mathlib.Core.List.{List, [], ◌∷◌, ◌++◌}
use native.Mathlib.Nat.{div-lt_iff_lt-mul, pow-suc}
use native.Mathlib.Omega.{arith}
use native.Mathlib.Numerals.{add-one}
use lib.ListN.{length, get_or, take, drop}
use lib.Seq.{get_or-append-add, drop-cons, drop-drop, drop-length, take-add}
use Rattle.record_code.specs.Layout.{bytes, number_at}

-- a number that stands behind b
pub number_past : (b l : List ℕ) (k i n : ℕ) → length b ≡ k → number_at (b ++ l) (k + i) n ≡ number_at l i n
number_past b l k i zero e = refl
number_past b l k i (suc n) e =
    let s : k + i + 1 ≡ k + (i + 1) = omega arith in
    let g : get_or (b ++ l) (k + i) 0 ≡ get_or l i 0 = rw (sym e) (get_or-append-add b l i 0) in
    rw (g, s, number_past b l k (i + 1) n e)

-- a number that n bytes can hold is the number in its n lowest bytes
pub number_bytes : (n x : ℕ) → x < 256 ^ n → number_at (bytes n x) 0 n ≡ x
unfolding bytes
number_bytes zero x h = omega arith
number_bytes (suc n) x h =
    let q : x < 256 ^ n * 256 = rw pow-suc at h in
    let e = number_bytes n (x / 256) ((div-lt_iff_lt-mul {k = 256} {x = x} {y = 256 ^ n} (omega arith)).1 q) in
    rw (number_past (x % 256 ∷ []) (bytes n (x / 256)) 1 0 n refl, e) (omega arith)

-- n bytes are the n lowest bytes of the number in them
pub bytes_number : (l : List ℕ) → ((i : ℕ) → get_or l i 0 < 256) → (at n : ℕ) → at + n ≤ length l → bytes n (number_at l at n) ≡ take n (drop at l)
unfolding bytes
bytes_number l small at zero h = refl
bytes_number l small at (suc n) h =
    let b = small at in
    let v = number_at l (at + 1) n in
    let m : (get_or l at 0 + 256 * v) % 256 ≡ get_or l at 0 = omega arith in
    let d : (get_or l at 0 + 256 * v) / 256 ≡ v = omega arith in
    rw (drop-cons l at 0 (omega arith), ← add-one at, m, d, bytes_number l small (at + 1) n (omega arith))

-- n bytes up to the end that hold 0 are all 0
pub bytes_none : (l : List ℕ) (at n : ℕ) → length l ≡ at + n → number_at l at n ≡ 0 → drop at l ≡ bytes n 0
unfolding bytes
bytes_none l at zero s e = let z : at ≡ length l = omega arith in rw z (drop-length l)
bytes_none l at (suc n) s e =
    let b : get_or l at 0 ≡ 0 = omega arith in
    rw (drop-cons l at 0 (omega arith), ← add-one at, b, bytes_none l (at + 1) n (omega arith) (omega arith))

-- two parts in a row are one
pub parts : (l : List ℕ) (at n m : ℕ) → take n (drop at l) ++ take m (drop (at + n) l) ≡ take (n + m) (drop at l)
parts l at n m = rw (take-add n m (drop at l), drop-drop n at l)
