-- Lists of opcodes, and parts of them. Assumes nothing.
use Prim.Native.Nat.{ℕ}
use mathlib.Core.Path.{◌≡◌, sym, ◌∙◌}
use mathlib.Core.Bool.{true, false, false≢true}
use mathlib.Core.List.{List}
use Rattle.rules.specs.Words.{one_of, every}
use Rattle.rules.proofs.Bools.{never, every_of}

-- an opcode that is in no list has no part of it either
pub not_among : (ks ns : List ℕ) (x : ℕ) → every (λ n. one_of n ks) ns ≡ true → one_of x ks ≡ false → one_of x ns ≡ false
not_among ks ns x e f = never (one_of x ns) (λ t. false≢true (sym f ∙ every_of (λ n. one_of n ks) ns e x t))
