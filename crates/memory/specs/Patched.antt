-- A list that differs from another in one part only.
use Rattle.std.specs.Prelude.{ℕ, ◌+◌, ◌%◌, ◌≤◌, ◌<◌, ◌≡◌, List, length, get_or}

-- l is l₀ with n bytes from `from` on replaced by what f says
pub record Patched (l l₀ : List ℕ) (from n : ℕ) (f : ℕ → ℕ) : Type 0 where
  pub size : length l ≡ length l₀
  pub inside : (i : ℕ) → i < n → get_or l (from + i) 0 ≡ f i
  pub before : (a : ℕ) → a < from → get_or l a 0 ≡ get_or l₀ a 0
  pub after : (a : ℕ) → from + n ≤ a → get_or l a 0 ≡ get_or l₀ a 0

-- l is the first n bytes of l₀ again and again, as long as l₀
pub record Repeated (l l₀ : List ℕ) (n : ℕ) : Type 0 where
  pub size : length l ≡ length l₀
  pub at : (i : ℕ) → i < length l₀ → get_or l i 0 ≡ get_or l₀ (i % n) 0
