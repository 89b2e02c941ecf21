-- The bytes are stored over 33 zeros. Assumes nothing.
use mathlib.Core.Path.{◌≡◌, sym, ap, ◌∙◌}
use mathlib.Core.List.{List}
use Prim.Native.Nat.{ℕ}
use Rattle.std.specs.Prelude.{◌++◌}
use lib.ListN.{length, drop, replicate}
use Rattle.serprog.specs.Commands.{answer_of, padded}
use Rattle.serprog.proofs.Laws.{padded_is}
use Rattle.serprog.proofs.commands.answer_of.Goals as goal

pub returns : goal.returns
unfolding answer_of
returns c = let l = c.args.first.now in
    ap (λ (b : List ℕ). record { bytes = b; count = length l })
    (ap (λ (t : List ℕ). t ++ drop (length l) (replicate 33 0)) c.copy_from_slice.ensures.after ∙ sym (padded_is 33 l c.requires))
