-- The number decides: what it leaves is what the machine leaves. Assumes nothing.
use mathlib.Core.Path.{refl, sym, ap, ◌∙◌}
use Rattle.rules.specs.declared.Form.{Form}
use Rattle.rules.specs.Numbers.{answer_number}
use Rattle.rules.specs.Promises.{zeroed}
use Rattle.turns.proofs.Events.{suspended_right}
use Rattle.framing.proofs.Outcomes.{frame_parts, showable, frame_done, frame_refused}
use Rattle.framing.proofs.command.Goals as goal

pub judge-requires : goal.judge-requires
judge-requires c = let a = c.args in let p = c.requires in record { suspended = suspended_right a.r a.page.now a.array.now a.security.now p.right; first_byte = refl; its_form = c.form_of-form.ensures; fits = (frame_parts a.r a.page.now a.array.now a.security.now a.sent.now a.reply.now a.marks.now zeroed p.fits).0 }

pub respond-requires : goal.respond-requires
respond-requires c = let a = c.args in let p = c.requires in showable a.r a.page.now a.array.now a.security.now a.sent.now a.reply.now a.marks.now zeroed p

pub page_after-requires : goal.page_after-requires
page_after-requires c = let a = c.args in let p = c.requires in (p.paged, (frame_parts a.r a.page.now a.array.now a.security.now a.sent.now a.reply.now a.marks.now zeroed p.fits).0)

pub returns-in-Ok : goal.returns-in-Ok
returns-in-Ok c = let a = c.args in let p = c.requires in λ x. record { outcome = frame_done a.r a.page.now a.array.now a.security.now a.sent.now a.reply.now a.marks.now x _ _ _ _ _ _ p (sym (ap answer_number c.in-Ok.is) ∙ c.judge.ensures) (ap (λ (f : Form). f.kind) c.form_of-form.ensures) c.done.ensures c.acted.ensures c.page_after.ensures c.respond.ensures }

pub returns-in-Err : goal.returns-in-Err
returns-in-Err c = let a = c.args in let p = c.requires in λ x. record { outcome = frame_refused a.r a.page.now a.array.now a.security.now a.sent.now a.reply.now a.marks.now x _ _ _ _ _ p (sym (ap answer_number c.in-Err.is) ∙ c.judge.ensures) c.refused.ensures c.used.ensures c.fill_both.ensures }
