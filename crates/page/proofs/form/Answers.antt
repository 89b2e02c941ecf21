-- The page in code is the page of the definitions. Assumes nothing.
use Rattle.meanings.specs.Meanings.{meaning}
use Rattle.page.specs.Page.{page, form}
use Rattle.page.proofs.form.Goals as goal

pub returns : goal.returns
unfolding meaning page form
returns c = c.fill.ensures
