-- A page of 256 bytes, filled with FF, is the blank one. Assumes nothing.
use mathlib.Core.Path.{ap, ◌∙◌}
use Prim.Native.Nat.{ℕ}
use lib.ListN.{replicate}
use Rattle.rules.specs.Programs.{blank}
use Rattle.memory.proofs.blank_page.Goals as goal

pub returns : goal.returns
unfolding blank
returns c = c.fill.ensures.after (λ y h. h) ∙ ap (λ (n : ℕ). replicate n 255) c.requires
