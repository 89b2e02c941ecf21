-- By the row. Assumes nothing.
use borrow.Author.Tests.{lt-ltb, le-ltb}
use Rattle.station_rows.specs.Stations.{bytes_row}
use Rattle.station_rows.proofs.listings.list_row.Goals as goal

pub returns-then-i-lt2048 : goal.returns-then-i-lt2048
unfolding bytes_row
returns-then-i-lt2048 c = rw (lt-ltb _ _ c.if-i-lt2048.true) c.station_row.ensures

pub returns : goal.returns
unfolding bytes_row
returns c = rw (le-ltb _ _ c.if-i-lt2048.false) c.left_out_row.ensures
