-- An opcode that no row has finds none. Assumes nothing.
use Prim.Native.Nat.{ℕ}
use mathlib.Core.Path.{◌≡◌, refl}
use mathlib.Core.Bool.{true, false}
use mathlib.Core.List.{List, [], ◌∷◌}
use lib.Dec.{eqb}
use Rattle.rules.specs.Words.{one_of, every}
use Rattle.rules.specs.Frames.{Row, find}
use Rattle.rules.proofs.Bools.{or_split}
use Rattle.rules.proofs.Arms.{Passed, none_passed}

abbrev opcodes : List Row → List ℕ
opcodes [] = []
opcodes (r ∷ rs) = r.opcode ∷ opcodes rs

unlisted : (x : ℕ) (rs : List Row) → one_of x (opcodes rs) ≡ false → find rs x ≡ find [] x
unfolding find
unlisted x [] e = refl
unlisted x (r ∷ rs) e = let h = or_split (eqb x r.opcode) (one_of x (opcodes rs)) e in rw h.0 (unlisted x rs h.1)

pub no_row : (x : ℕ) (ks : List ℕ) (rs : List Row) → every (λ o. one_of o ks) (opcodes rs) ≡ true → Passed x ks → find rs x ≡ find [] x
no_row x ks rs t p = unlisted x rs (none_passed x ks (opcodes rs) t p)
