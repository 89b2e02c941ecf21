-- A word is filled up. Assumes nothing.
use Rattle.station_rows.specs.Stations.{size_of}
use Rattle.station_rows.proofs.whys.size_of.Goals as goal

pub returns-then-slots-n : goal.returns-then-slots-n
unfolding size_of
returns-then-slots-n c = rw c.if-slots-n.true

pub returns : goal.returns
unfolding size_of
returns c = rw c.if-slots-n.false
