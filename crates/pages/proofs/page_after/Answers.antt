-- Each kind has its clause. Assumes nothing.
use Rattle.pages.proofs.page_after.Goals as goal

pub returns-in-Begin : goal.returns-in-Begin
returns-in-Begin c = rw (c.page_of.ensures, c.in-Begin.is)

pub returns-in-Do : goal.returns-in-Do
returns-in-Do c = rw (c.page_at_once.ensures, c.in-Do.is)
