-- After i bytes the form is filled by the first i of the page; once its line is over no more is taken. Assumes nothing.
use Rattle.std.proofs.Common.{◌≡◌, drop}
use Rattle.forms.specs.Forms.{fills}
use Rattle.forms.proofs.fill.Given as goal

abbrev pub invariant-loop-x : goal.invariant-loop-x
invariant-loop-x l = fills l.initial.f l.page ≡ fills l.f (drop l.x-index l.page)
