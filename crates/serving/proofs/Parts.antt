-- A part of a slice that was lent, in front of what is left of it. Assumes nothing.
use Prim.Native.Nat.{ℕ, ◌+◌, ◌<◌, min}
use mathlib.Core.Path.{◌≡◌, sym, ap, ◌∙◌}
use mathlib.Core.List.{List, ◌++◌, append-nil}
use native.Mathlib.Omega.{arith}
use native.Mathlib.Decide.{dec_lt}
use lib.ListN.{length, get_or, take, drop, length-append, length-drop, drop_of_length-le}
use Rattle.memory.specs.Patched.{Patched}
use lib.Seq.{take_all, take_at, drop_at, length-take-le}

module _ (e n : ℕ) (w : List ℕ) (is : n ≡ min e (length w)) where
  -- as many as there are
  pub take_min : take n w ≡ take e w
  take_min = go (dec_lt (length w) e)
    where
      go : Dec (length w < e) → take n w ≡ take e w
      go (yes h) = take_all n w (omega arith) ∙ sym (take_all e w (omega arith))
      go (no h) = let same : n ≡ e = omega arith in ap (λ (k : ℕ). take k w) same

  module _ (p : List ℕ) (size : length p ≡ length (take n w)) where
    long : length p ≡ n
    long = size ∙ length-take-le n w (omega arith)

    pub part_taken : take e (p ++ drop n w) ≡ p
    part_taken = go (dec_lt (length w) e)
      where
        go : Dec (length w < e) → take e (p ++ drop n w) ≡ p
        go (yes h) =
            take_all e (p ++ drop n w) (omega (arith, length-append p (drop n w), length-drop n w, long))
            ∙ ap (λ (x : List ℕ). p ++ x) (drop_of_length-le w {i = n} (omega arith)) ∙ append-nil p
        go (no h) = take_at p (drop n w) e (omega (arith, long))

    pub part_dropped : drop e (p ++ drop n w) ≡ drop e w
    part_dropped = go (dec_lt (length w) e)
      where
        go : Dec (length w < e) → drop e (p ++ drop n w) ≡ drop e w
        go (yes h) =
            drop_of_length-le (p ++ drop n w) {i = e} (omega (arith, length-append p (drop n w), length-drop n w, long)) ∙ sym (drop_of_length-le w {i = e} (omega arith))
        go (no h) = drop_at p (drop n w) e (omega (arith, long)) ∙ (let same : n ≡ e = omega arith in ap (λ (k : ℕ). drop k w) same)
