-- A command, or a frame that is turned away. Assumes nothing.
use Prim.Native.Nat.{ℕ, ◌<◌}
use mathlib.Core.Path.{◌≡◌, sym, ap, ◌∙◌}
use mathlib.Core.Bool.{Bool, true}
use native.Mathlib.Omega.{arith}
use lib.Dec.{ltb}
use lib.ListN.{length}
use borrow.Author.Tests.{ltb-true}
use Rattle.rules.specs.Tears.{resets}
use Rattle.rules.proofs.Bools.{and_split}
use Rattle.framing.proofs.Outcomes.{frame_turned_away}
use Rattle.framing.proofs.plain_turn.Goals as goal

some_byte : (k n : ℕ) → ltb k n ≡ true → 0 < n
some_byte k n t = let h = ltb-true k n t in omega arith

pub command-requires : goal.command-requires
command-requires c = let b = and_split _ _ c.if-right-sent.true in let r = and_split _ _ b.0 in let a = c.args in record { paged = c.requires.0.paged; right = sym c.requires.0.known ∙ r.0; fits = sym c.frame_right-fits.ensures ∙ r.1; some = some_byte _ (length a.sent.now) b.1; plain = ap (λ (x : Bool). resets x a.r a.sent.now (length a.reply.now) (length a.marks.now)) (sym r.0) ∙ c.requires.1 }

pub returns-then-right-sent : goal.returns-then-right-sent
returns-then-right-sent c = c.command.ensures

pub returns : goal.returns
returns c = let a = c.args in λ x. record { outcome = frame_turned_away a.r a.page.now a.array.now a.security.now a.sent.now a.reply.now a.marks.now x _ _ _ _ _ c.requires.0.known c.frame_right-fits.ensures c.if-right-sent.false c.turned_away.ensures }
