-- Another length than a record's is refused; else the reader's promise holds, and where it is done the record in the file is put. Assumes nothing.
use Rattle.bench.proofs.Images.{read_unsized, read_refused, read_taken}
use Rattle.bench.proofs.fulkibono_image_read.Goals as goal

pub returns-then-bytes-ne320 : goal.returns-then-bytes-ne320
returns-then-bytes-ne320 c =
    let a = c.args in
    read_unsized a.file.now a.bytes.now a.array.now a.security.now c.if-bytes-ne320.true

pub returns-then-n-ne0 : goal.returns-then-n-ne0
returns-then-n-ne0 c =
    let a = c.args in
    read_refused a.file.now a.bytes.now a.array.now a.security.now c.if-bytes-ne320.false _ c.new.ensures c.read-came.result _ c.read-came.new.array c.read-came.new.security c.read-came.ensures c.number-n.ensures c.if-n-ne0.true

pub returns : goal.returns
returns c =
    let a = c.args in
    read_taken a.file.now a.bytes.now a.array.now a.security.now c.if-bytes-ne320.false _ c.new.ensures c.read-came.result _ c.read-came.new.array c.read-came.new.security c.read-came.ensures c.number-n.ensures _ c.if-n-ne0.false c.put_idle.ensures
