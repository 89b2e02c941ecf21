-- The page is blank, and what stands behind it the idle record's. Assumes nothing.
use mathlib.Core.Path.{sym}
use Rattle.bench.proofs.Calls.{page_size}
use Rattle.bench.proofs.Images.{idle_put}
use Rattle.bench.proofs.put_idle.Goals as goal

pub slice_bounds-blank_page-end-2 : goal.slice_bounds-blank_page-end-2
slice_bounds-blank_page-end-2 c = sym (page_size c.args.bytes.now c.requires)

pub blank_page-requires : goal.blank_page-requires
blank_page-requires c = page_size c.args.bytes.now c.requires

pub returns : goal.returns
returns c =
    idle_put c.args.bytes.now c.blank_page.new.page _ c.args.r c.requires c.blank_page.auto.page c.blank_page.ensures c.put_idle.ensures
