-- Bytes counted, and stored one by one. Assumes nothing.
use lib.Seq.{drop-drop}
use Prim.Native.Nat.{ℕ, zero, suc, ◌+◌, ◌-◌, ◌≤◌, min}
use mathlib.Core.Path.{◌≡◌}
use mathlib.Core.Bool.{Bool, true, false}
use mathlib.Core.List.{List}
use native.Mathlib.Omega.{arith}
use Rattle.std.proofs.Common.{append_assoc}
use Rattle.std.proofs.lemmas.Grind.{common_steps}
use Rattle.std.proofs.lemmas.List.{take_more_set, drop-set-lt}
use mathlib.Core.List.{◌++◌}
use lib.ListN.{length, take, drop, replicate, length-set}
use lib.ListN.{set}
use Rattle.rules.specs.Words.{pick}
use Rattle.script.specs.Lines.{filled}

-- what is stored one by one is those places filled
filled_is_lem : (n : ℕ) (l : List ℕ) (at v : ℕ) → at + n ≤ length l → take at l ++ (replicate n v ++ drop (at + n) l) ≡ filled n l at v
unfolding filled
filled_is_lem zero l at v h = grind (arith, common_steps)
filled_is_lem (suc n) l at v h =
    let h' : at + 1 + n ≤ length (set l at v) = omega (arith, length-set {A = ℕ}) in
    let e = filled_is_lem n (set l at v) (at + 1) v h' in
    let t = take_more_set l at v (omega arith) in
    let d = drop-set-lt (at + 1 + n) l at v (omega arith) in
    let g : at + suc n ≡ at + 1 + n = omega arith in
    rw g (rw (t, d, append_assoc) at e)

pub filled_is : (n : ℕ) (l : List ℕ) (at v : ℕ) → at + n ≤ length l → take at l ++ (replicate n v ++ drop n (drop at l)) ≡ filled n l at v
filled_is n l at v h = rw (drop-drop n at l) (filled_is_lem n l at v h)

pub none_filled : (l : List ℕ) (end i v : ℕ) → end ≤ i → l ≡ filled (end - i) l i v
unfolding filled
none_filled l end i v h = let e : end - i ≡ 0 = omega arith in rw e

-- a count that is full stays so
pub count_full : (at n : ℕ) (one : Bool) → 65537 ≤ at → 65537 ≡ pick one (min (at + 1) 65537) (min (at + (n - 1)) 65537)
count_full at n true h = omega arith
count_full at n false h = omega arith
