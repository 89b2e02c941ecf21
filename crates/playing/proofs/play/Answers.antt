-- By what the line asks for. Assumes nothing.
use mathlib.Core.Path.{refl, ap, ◌∙◌}
use Rattle.standing.specs.Benches.{wrong_counted}
use Rattle.playing.proofs.Lines.{untouched}
use Rattle.playing.proofs.play.Goals as goal

pub returns-in-Nothing : goal.returns-in-Nothing
returns-in-Nothing c = rw (← c.deed_of.ensures, c.in-Nothing.is, ← c.next_line-now.ensures) (refl, untouched _ _ _ _)

pub returns-in-Event : goal.returns-in-Event
returns-in-Event c = rw (← c.deed_of.ensures, c.in-Event.is, ← c.next_line-now.ensures) c.played.ensures

pub returns-in-Setting : goal.returns-in-Setting
returns-in-Setting c = rw (← c.deed_of.ensures, c.in-Setting.is, ← c.next_line-now.ensures) (c.played-in-Setting.ensures, (refl, refl))

pub returns-in-Question : goal.returns-in-Question
returns-in-Question c = rw (← c.deed_of.ensures, c.in-Question.is, ← c.next_line-now.ensures) (c.played-in-Question.ensures, untouched _ _ _ _)

pub returns-in-Post : goal.returns-in-Post
returns-in-Post c = rw (← c.deed_of.ensures, c.in-Post.is, ← c.next_line-now.ensures) (refl, untouched _ _ _ _)

pub returns-in-Call : goal.returns-in-Call
returns-in-Call c = rw (← c.deed_of.ensures, c.in-Call.is, ← c.next_line-now.ensures) (refl, untouched _ _ _ _)

pub returns-in-Wrong : goal.returns-in-Wrong
returns-in-Wrong c = rw (← c.deed_of.ensures, c.in-Wrong.is) (c.wrong.ensures ∙ ap wrong_counted c.next_line-now.ensures, untouched _ _ _ _)
