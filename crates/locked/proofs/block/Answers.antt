-- Its range, its bit, and what opens it. Assumes nothing.
use Rattle.locked.specs.Locked.{block_why}
use mathlib.Core.Path.{ap, ◌∙◌}
use Rattle.page.specs.Page.{form}
use Prim.Native.Nat.{ℕ, ◌+◌, ◌-◌}
use mathlib.Core.Bool.{Bool}
use Rattle.rules.specs.Words.{pick}
use Prim.Native.Nat.{ℕ}
use Rattle.locked.proofs.block.Goals as goal

pub returns : goal.returns
unfolding block_why
returns c = c.form.ensures ∙ ap (λ (k : ℕ). form k c.args.b.start (c.args.b.start + c.args.b.size - 1) c.args.b.write c.args.r) (c.opened_by-k.ensures ∙ ap (λ (t : Bool). pick t 78 (pick c.args.wpld 77 76)) c.bit_at.ensures)
