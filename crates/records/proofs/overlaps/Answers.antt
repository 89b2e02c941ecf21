-- Each start lies before both ends. Assumes nothing.
use Rattle.records.proofs.Records.{overlap_four}
use Rattle.records.proofs.overlaps.Goals as goal

pub returns : goal.returns
returns c = overlap_four c.args.r c.args.s
