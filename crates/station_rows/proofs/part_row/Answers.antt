-- By the part. Assumes nothing.
use Rattle.station_rows.proofs.part_row.Goals as goal

pub returns-in-Remark : goal.returns-in-Remark
returns-in-Remark c = rw (c.in-Remark.is) c.empty.ensures

pub returns-in-Head : goal.returns-in-Head
returns-in-Head c = rw (c.in-Head.is, ← c.station_of-n.ensures) c.row.ensures

pub returns-in-Second : goal.returns-in-Second
returns-in-Second c = rw (c.in-Second.is) c.empty-in-Second.ensures

pub returns-in-Bytes : goal.returns-in-Bytes
returns-in-Bytes c = rw (c.in-Bytes.is) c.bytes.ensures

pub returns-in-More : goal.returns-in-More
returns-in-More c = rw (c.in-More.is) c.more.ensures

pub returns-in-Configuration : goal.returns-in-Configuration
returns-in-Configuration c = rw (c.in-Configuration.is) c.empty-in-Configuration.ensures

pub returns-in-Bits : goal.returns-in-Bits
returns-in-Bits c = rw (c.in-Bits.is) c.empty-in-Bits.ensures

pub returns-in-Protocol : goal.returns-in-Protocol
returns-in-Protocol c = rw (c.in-Protocol.is) c.empty-in-Protocol.ensures

pub returns-in-Number : goal.returns-in-Number
returns-in-Number c = rw (c.in-Number.is) c.number.ensures

pub returns-in-Torn : goal.returns-in-Torn
returns-in-Torn c = rw (c.in-Torn.is) c.empty-in-Torn.ensures

pub returns-in-Unmet : goal.returns-in-Unmet
returns-in-Unmet c = rw (c.in-Unmet.is) c.length_unmet.ensures

pub returns-in-Expected : goal.returns-in-Expected
returns-in-Expected c = rw (c.in-Expected.is) c.expected.ensures

pub returns-in-Came : goal.returns-in-Came
returns-in-Came c = rw (c.in-Came.is) c.came.ensures

pub returns-in-Memory : goal.returns-in-Memory
returns-in-Memory c = rw (c.in-Memory.is) c.empty-in-Memory.ensures

pub returns-in-Over : goal.returns-in-Over
returns-in-Over c = rw (c.in-Over.is) c.empty-in-Over.ensures
