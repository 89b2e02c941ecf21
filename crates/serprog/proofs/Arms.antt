-- The arm of a `match` that none of the keys before it takes: a table that has only those keys has no row for the number. Assumes nothing.
use Prim.Native.Nat.{ℕ}
use mathlib.Core.Path.{◌≡◌, refl}
use mathlib.Core.Bool.{true}
use mathlib.Core.List.{List, [], ◌∷◌}
use borrow.Author.Tests.{ne_eqb}
use Rattle.rules.specs.Words.{one_of, every}
use Rattle.rules.proofs.Bools.{and_split}
use Rattle.rules.proofs.Arms.{Passed, passed_key}
use Rattle.serprog.specs.Commands.{Row, find}

pub no_row : (x : ℕ) (ks : List ℕ) (rs : List Row) → every (λ r. one_of r.code ks) rs ≡ true → Passed x ks → find rs x ≡ find [] x
unfolding find
no_row x ks [] t p = refl
no_row x ks (r ∷ rs) t p =
    let h = and_split (one_of r.code ks) (every (λ r. one_of r.code ks) rs) t in
    rw (ne_eqb x r.code (passed_key x r.code ks p h.0)) (no_row x ks rs h.1 p)
