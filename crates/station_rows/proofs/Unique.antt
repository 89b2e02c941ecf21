-- No second outcome: whatever meets the guarantee of a public function of this crate at the same input is the same result. Assumes nothing.
use Rattle.rules.proofs.Promises.{one}
use Rattle.rules.proofs.Outcomes.{OneResult}
use Rattle.station_rows.proofs.row.Reads as row
use Rattle.station_rows.proofs.heads.row.Reads as head
use Rattle.station_rows.proofs.heads.station_count.Reads as station-count
use Rattle.station_rows.proofs.listings.bytes.Reads as bytes
use Rattle.station_rows.proofs.listings.more.Reads as more
use Rattle.station_rows.proofs.listings.counts_row.Reads as counts-row
use Rattle.station_rows.proofs.whys.number.Reads as number
use Rattle.station_rows.proofs.whys.why.Reads as why
use Rattle.station_rows.proofs.whys.length_unmet.Reads as length-unmet
use Rattle.station_rows.proofs.whys.size_of.Reads as type_size

pub row_one : OneResult row.Post
row_one κ a x y r r' p q = one p q

-- ---- inside the crate

pub head_one : OneResult head.Post
head_one κ a x y r r' p q = one p q

pub station_count_one : OneResult station-count.Post
station_count_one κ a x y r r' p q = one p q

pub bytes_one : OneResult bytes.Post
bytes_one κ a x y r r' p q = one p q

pub more_one : OneResult more.Post
more_one κ a x y r r' p q = one p q

pub counts_row_one : OneResult counts-row.Post
counts_row_one κ a x y r r' p q = one p q

pub number_one : OneResult number.Post
number_one κ a x y r r' p q = one p q

pub why_one : OneResult why.Post
why_one κ a x y r r' p q = one p q

pub length_unmet_one : OneResult length-unmet.Post
length_unmet_one κ a x y r r' p q = one p q

pub size_of_one : OneResult type_size.Post
size_of_one κ a x y r r' p q = one p q
