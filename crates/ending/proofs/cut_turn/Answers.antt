-- Malformed, or power-up after what was finished. Assumes nothing.
use mathlib.Core.Path.{sym, ◌∙◌}
use Rattle.turns.proofs.Events.{state_parts, running_right}
use Rattle.ending.proofs.Outcomes.{cut_malformed, cut_done}
use borrow.Author.Rules.{rules}
use Rattle.ending.proofs.cut_turn.Goals as goal

pub returns-then-not-known : goal.returns-then-not-known
returns-then-not-known c = let a = c.args in record { outcome = cut_malformed a.r a.page.now a.array.now a.security.now _ c.requires.known a.tear _ c.refused.ensures c.if-not-known.true }

pub finish_array-requires : goal.finish_array-requires
finish_array-requires c = let a = c.args in let s = sym c.requires.known ∙ c.if-not-known.false in (running_right a.r a.page.now a.array.now a.security.now s, ((state_parts a.r a.page.now a.array.now a.security.now s).whole, c.requires.paged))

pub finish_security-requires : goal.finish_security-requires
finish_security-requires c = let a = c.args in let s = sym c.requires.known ∙ c.if-not-known.false in (running_right a.r a.page.now a.array.now a.security.now s, ((state_parts a.r a.page.now a.array.now a.security.now s).secure, c.requires.paged))

pub returns : goal.returns
returns c = let a = c.args in record { outcome = cut_done a.r a.page.now a.array.now a.security.now _ c.requires.known a.tear _ _ _ c.finish_array.new.array c.finish_security.new.security c.if-not-known.false c.done.ensures c.cut.ensures (search rules) c.finish_array.ensures c.finish_security.ensures }
