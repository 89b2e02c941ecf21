-- Burst reads: how the places of a burst run, over any length; and that the four lengths divide a page. Assumes nothing.
use Prim.Native.Nat.{ℕ, zero, suc, ◌+◌, ◌-◌, ◌*◌, ◌/◌, ◌%◌, ◌≤◌, ◌<◌}
use mathlib.Core.Path.{◌≡◌, refl, sym, ap, ◌∙◌, subst}
use native.Mathlib.Nat.{add_assoc, add-zero, zero-mul, mul_assoc, mul-mod_left, mul-div_cancel, add-mod_left, mod-lt, mod-eq_of_lt, mod_self, mod-add-mod, add-mod-mod, add-mod_right, div-add-mod', div-lt_iff_lt-mul}
use native.Mathlib.Omega.{arith}
use lib.Arith.{digits_lt, digits_div, mod-mul}
use Rattle.rules.specs.declared.Burst.{Burst}
use Rattle.rules.specs.Blocks.{array_size_lem}
use Rattle.rules.specs.Bursts.{burst_length, group_start, burst_place, Divides}

module _ (n a : ℕ) (some : 0 < n) where
  -- it starts at the address given
  pub burst_first : burst_place n a 0 ≡ a
  unfolding burst_place
  burst_first = ap (λ (x : ℕ). group_start n a + x) (mod-add-mod a n 0 ∙ ap (λ (x : ℕ). x % n) (add-zero a)) ∙ div-add-mod' a n

  -- each place lies in the group of the address
  pub burst_group : (i : ℕ) → group_start n (burst_place n a i) ≡ group_start n a
  unfolding burst_place
  burst_group i = ap (λ (x : ℕ). x * n) (digits_div (a / n) (mod-lt (a % n + i) some))

  -- the place in the group of the next byte
  next : (i : ℕ) → (a % n + (i + 1)) % n ≡ ((a % n + i) % n + 1) % n
  next i = ap (λ (x : ℕ). x % n) (sym (add_assoc (a % n) i 1)) ∙ sym (mod-add-mod (a % n + i) n 1)

  -- it goes up one place a byte
  pub burst_up : (i : ℕ) → burst_place n a i + 1 < group_start n a + n → burst_place n a (i + 1) ≡ burst_place n a i + 1
  unfolding burst_place
  burst_up i h = ap (λ (x : ℕ). group_start n a + x) (next i ∙ mod-eq_of_lt (omega arith)) ∙ sym (add_assoc (group_start n a) ((a % n + i) % n) 1)

  -- after the group's last place comes its first
  pub burst_wrap : (i : ℕ) → burst_place n a i + 1 ≡ group_start n a + n → burst_place n a (i + 1) ≡ group_start n a
  unfolding burst_place
  burst_wrap i h =
      let e : (a % n + i) % n + 1 ≡ n = omega arith in
      ap (λ (x : ℕ). group_start n a + x) (next i ∙ ap (λ (x : ℕ). x % n) e ∙ mod_self n) ∙ add-zero (group_start n a)

  -- and so round and round
  pub burst_round : (i : ℕ) → burst_place n a (i + n) ≡ burst_place n a i
  unfolding burst_place
  burst_round i = ap (λ (x : ℕ). group_start n a + x) (ap (λ (x : ℕ). x % n) (sym (add_assoc (a % n) i n)) ∙ add-mod_right (a % n + i) n)

  pub burst_turn : (i : ℕ) → burst_place n a (i % n) ≡ burst_place n a i
  unfolding burst_place
  burst_turn i = ap (λ (x : ℕ). group_start n a + x) (add-mod-mod (a % n) i n)

  -- within a memory of m groups
  pub burst_inside : (m i : ℕ) → a < m * n → burst_place n a i < m * n
  unfolding burst_place
  burst_inside m i h = digits_lt ((div-lt_iff_lt-mul {k = n} {x = a} {y = m} some).1 h) (mod-lt (a % n + i) some)

  -- up to the group's end these are the places from the address on; then come those from the group's first place on
  pub burst_start : (i : ℕ) → a % n + i < n → burst_place n a i ≡ a + i
  unfolding burst_place
  burst_start i h = let e = div-add-mod' a n in ap (λ (x : ℕ). group_start n a + x) (mod-eq_of_lt h) ∙ omega arith

  pub burst_rest : (i : ℕ) → i < a % n → burst_place n a (n - a % n + i) ≡ a - a % n + i
  unfolding burst_place
  burst_rest i h =
      let l = mod-lt a some in
      let e = div-add-mod' a n in
      let s : a % n + (n - a % n + i) ≡ n + i = omega arith in
      ap (λ (x : ℕ). group_start n a + x) (ap (λ (x : ℕ). x % n) s ∙ add-mod_left n i ∙ mod-eq_of_lt (omega arith)) ∙ omega arith

-- ---- the four lengths

pub lengths_divide : (b : Burst) → Divides (burst_length b)
lengths_divide Burst.Eight = record { some = omega arith; page = refl }
lengths_divide Burst.Sixteen = record { some = omega arith; page = refl }
lengths_divide Burst.ThirtyTwo = record { some = omega arith; page = refl }
lengths_divide Burst.SixtyFour = record { some = omega arith; page = refl }

-- a burst of such a length stays in the array
pub burst_in_array : (n a i : ℕ) → Divides n → a < array_size_lem → burst_place n a i < array_size_lem
burst_in_array n a i d h =
    let e : 8192 * (256 / n) * n ≡ array_size_lem = mul_assoc 8192 (256 / n) n ∙ ap (λ (x : ℕ). 8192 * x) d.page in
    subst (λ (x : ℕ). burst_place n a i < x) e (burst_inside n a d.some (8192 * (256 / n)) i (subst (λ (x : ℕ). a < x) (sym e) h))

-- a group lies in one page
module _ (n a : ℕ) (d : Divides n) where
  turns : 0 < 256 / n
  turns = go (256 / n) refl
    where
      go : (m : ℕ) → 256 / n ≡ m → 0 < m
      go zero q = absurd (let z : 0 * n ≡ 256 = ap (λ (x : ℕ). x * n) (sym q) ∙ d.page in let y = zero-mul n in omega arith)
      go (suc m) q = omega arith

  by_groups : (x : ℕ) → x % 256 ≡ (x / n % (256 / n)) * n + x % n
  by_groups x = ap (λ (p : ℕ). x % p) (sym d.page) ∙ mod-mul x turns d.some

  pub group_in_page : a % 256 + (n - a % n) ≤ 256
  group_in_page =
      let e = by_groups a in
      let l = mod-lt a d.some in
      let q = digits_lt {q = a / n % (256 / n)} {m = 256 / n} {r = n - 1} {c = n} (mod-lt (a / n) turns) (let s = d.some in omega arith) in
      let p = d.page in
      omega arith

  pub start_in_page : (a - a % n) % 256 + a % n ≤ 256
  start_in_page =
      let e = by_groups a in
      let s : a - a % n ≡ a / n * n = (let k = div-add-mod' a n in omega arith) in
      let f = by_groups (a / n * n) in
      let z = mul-mod_left (a / n) n in
      let c : a / n * n / n ≡ a / n = mul-div_cancel (a / n) d.some in
      let g : (a - a % n) % 256 ≡ (a / n % (256 / n)) * n = ap (λ (x : ℕ). x % 256) s ∙ f ∙ (λ i. (c i % (256 / n)) * n + z i) ∙ add-zero _ in
      omega arith
