-- Malformed, idle, or the work ends. Assumes nothing.
use mathlib.Core.Path.{sym, ◌∙◌}
use Rattle.turns.proofs.Events.{state_parts, running_right}
use Rattle.ending.proofs.Outcomes.{completion_malformed, completion_idle, completion_done}
use Rattle.ending.proofs.completion_turn.Goals as goal

pub returns-then-not-known : goal.returns-then-not-known
returns-then-not-known c = let a = c.args in record { outcome = completion_malformed a.r a.page.now a.array.now a.security.now _ c.requires.known _ c.refused.ensures c.if-not-known.true }

pub returns-then-is_nothing : goal.returns-then-is_nothing
returns-then-is_nothing c = let a = c.args in record { outcome = completion_idle a.r a.page.now a.array.now a.security.now _ c.requires.known _ _ c.refused-then-is_nothing.ensures c.if-not-known.false c.is_nothing.ensures c.if-is_nothing.true }

pub finish_array-requires : goal.finish_array-requires
finish_array-requires c = let a = c.args in let s = sym c.requires.known ∙ c.if-not-known.false in (running_right a.r a.page.now a.array.now a.security.now s, ((state_parts a.r a.page.now a.array.now a.security.now s).whole, c.requires.paged))

pub finish_security-requires : goal.finish_security-requires
finish_security-requires c = let a = c.args in let s = sym c.requires.known ∙ c.if-not-known.false in (running_right a.r a.page.now a.array.now a.security.now s, ((state_parts a.r a.page.now a.array.now a.security.now s).secure, c.requires.paged))

pub returns : goal.returns
returns c = let a = c.args in record { outcome = completion_done a.r a.page.now a.array.now a.security.now _ c.requires.known _ _ _ _ c.finish_array.new.array c.finish_security.new.security c.if-not-known.false c.is_nothing.ensures c.if-is_nothing.false c.done.ensures c.completed.ensures c.page_rested.ensures c.finish_array.ensures c.finish_security.ensures }
