-- A number in six bytes as three of two. Assumes nothing.
use Prim.Native.Nat.{ℕ, ◌+◌, ◌*◌, ◌≤◌}
use mathlib.Core.Path.{◌≡◌, refl, ap, ◌∙◌}
use mathlib.Core.List.{List, [], ◌∷◌, ◌++◌}
use native.Mathlib.Omega.{arith}
use lib.ListN.{length}
use Rattle.image.specs.Form.{number, number_from}
use Rattle.image.specs.Files.{part}
use Rattle.image.proofs.Bytes.{number_two}
use Rattle.image.proofs.Parts.{part_add, length_part}

-- ---- a number in six bytes as three of two

number_behind : (x : ℕ) (l m : List ℕ) → number_from x (l ++ m) ≡ number_from (number_from x l) m
unfolding number_from
number_behind x [] m = refl
number_behind x (b ∷ l) m = number_behind (x * 256 + b) l m

two_behind : (m : List ℕ) (x : ℕ) → length m ≡ 2 → number_from x m ≡ x * 65536 + number m
two_behind [] x e = absurd (omega arith)
two_behind (a ∷ []) x e = absurd (omega arith)
two_behind (a ∷ b ∷ []) x e = let p = number_two x a b in let q = number_two 0 a b in omega arith
two_behind (a ∷ b ∷ d ∷ m) x e = absurd (omega arith)

pub six_two : (l : List ℕ) (at : ℕ) → at + 6 ≤ length l
    → (number (part l at 2) * 0x1_0000 + number (part l (at + 2) 2)) * 0x1_0000 + number (part l (at + 4) 2) ≡ number (part l at 6)
six_two l at h =
    let j : at + 2 + 2 ≡ at + 4 = omega arith in
    let whole : part l at 6 ≡ part l at 2 ++ (part l (at + 2) 2 ++ part l (at + 4) 2) =
    part_add l at 2 4 ∙ ap (λ r. part l at 2 ++ r) (part_add l (at + 2) 2 2 ∙ ap (λ i. part l (at + 2) 2 ++ part l i 2) j) in
    let b = two_behind (part l (at + 2) 2) (number (part l at 2)) (length_part l (at + 2) 2 (omega arith)) in
    let c = two_behind (part l (at + 4) 2) (number_from (number (part l at 2)) (part l (at + 2) 2)) (length_part l (at + 4) 2 (omega arith)) in
    let n : number (part l at 6) ≡ number_from (number_from (number (part l at 2)) (part l (at + 2) 2)) (part l (at + 4) 2) =
    ap number whole ∙ number_behind 0 (part l at 2) (part l (at + 2) 2 ++ part l (at + 4) 2) ∙ number_behind (number (part l at 2)) (part l (at + 2) 2) (part l (at + 4) 2) in
    omega arith
