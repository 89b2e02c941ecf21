-- The page, and the rest behind it: the record's code. Assumes nothing.
use Rattle.station_bench.proofs.Calls.{paged, coded}
use Rattle.station_bench.proofs.put_chip.Goals as goal

pub put_rest-requires : goal.put_rest-requires
put_rest-requires c = let a = c.args in let p = c.put_page.ensures in paged a.bytes.now _ a.c.buffer p.bytes_after p.whole c.requires.0 c.requires.1

pub returns : goal.returns
returns c = let a = c.args in let p = c.put_page.ensures in coded a.bytes.now c.put_page.new.bytes _ a.c p.bytes_after p.whole c.put_rest.ensures
