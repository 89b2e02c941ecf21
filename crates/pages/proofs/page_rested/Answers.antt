-- Kept for a suspended program. Assumes nothing.
use Prim.Native.Nat.{ℕ}
use mathlib.Core.Path.{◌≡◌}
use mathlib.Core.Bool.{true, false, not}
use mathlib.Core.List.{List}
use borrow.Author.Tests.{not-true, not-false}
use Rattle.rules.specs.declared.Work.{Work}
use Rattle.rules.specs.Works.{is_program}
use Rattle.rules.specs.Programs.{blank}
use Rattle.rules.specs.Commands.{buffer_rested}

dropped : (w : Work) (b : List ℕ) → not (is_program w) ≡ true → blank ≡ buffer_rested w b
dropped w b t = rw (not-true (is_program w) t)

kept : (w : Work) (b : List ℕ) → not (is_program w) ≡ false → b ≡ buffer_rested w b
kept w b f = rw (not-false (is_program w) f)
