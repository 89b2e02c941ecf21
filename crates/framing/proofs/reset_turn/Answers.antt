-- What runs is stopped, the page is blank, and there is no reply. Assumes nothing.
use Rattle.turns.proofs.Events.{state_parts, running_right}
use Rattle.framing.proofs.Outcomes.{frame_reset}
use Rattle.framing.proofs.reset_turn.Goals as goal

pub finish_array-requires : goal.finish_array-requires
finish_array-requires c = let a = c.args in (running_right a.r a.page.now a.array.now a.security.now c.requires.right, ((state_parts a.r a.page.now a.array.now a.security.now c.requires.right).whole, c.requires.paged))

pub finish_security-requires : goal.finish_security-requires
finish_security-requires c = let a = c.args in (running_right a.r a.page.now a.array.now a.security.now c.requires.right, ((state_parts a.r a.page.now a.array.now a.security.now c.requires.right).secure, c.requires.paged))

pub shape_of-array : goal.shape_of-array
shape_of-array c = c.finish_array.auto.array

pub shape_of-security : goal.shape_of-security
shape_of-security c = c.finish_security.auto.security

pub returns : goal.returns
returns c = let a = c.args in
    record { outcome = frame_reset a.r a.page.now a.array.now a.security.now a.reply.now a.marks.now a.circumstances c.requires _ _ _ c.finish_array.new.array c.finish_security.new.security _ _ c.done.ensures c.reset.ensures c.blank_page.ensures c.finish_array.ensures c.finish_security.ensures c.fill_both.ensures }
