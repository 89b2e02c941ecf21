use mathlib.Core.Path.{ap, ◌∙◌}
use mathlib.Core.Bool.{not}
use lib.ListN.{length}
use Rattle.image.proofs.Outcomes.{sizes_of, sized, unsized}
use Rattle.bench.proofs.Images.{write_other_sizes, write_no_record, known_size, write_at_work_bytes, write_done_bytes}
use Rattle.bench.proofs.fulkibono_image_write.Goals as goal

pub returns-then-not-sizes_right : goal.returns-then-not-sizes_right
returns-then-not-sizes_right c = let a = c.args in
    write_other_sizes a.bytes.now a.array.now a.security.now a.file.now (unsized _ _ _ _ c.sizes_right.ensures (ap not c.if-not-sizes_right.true))

pub is_record-requires : goal.is_record-requires
is_record-requires c = let a = c.args in
    (sizes_of _ _ _ (sized a.array.now a.security.now a.file.now _ c.sizes_right.ensures (ap not c.if-not-sizes_right.false))).file_size

pub returns-then-not-is_record : goal.returns-then-not-is_record
returns-then-not-is_record c = let a = c.args in
    write_no_record a.bytes.now a.array.now a.security.now a.file.now (sized _ _ _ _ c.sizes_right.ensures (ap not c.if-not-sizes_right.false)) _ c.is_record.ensures.value _ c.is_record.ensures.kept (ap not c.if-not-is_record.true)

pub is_idle-requires : goal.is_idle-requires
is_idle-requires c = let a = c.args in
    known_size a.bytes.now a.array.now a.security.now a.file.now (sized _ _ _ _ c.sizes_right.ensures (ap not c.if-not-sizes_right.false)) _ c.is_record.ensures.value _ c.is_record.ensures.kept (ap not c.if-not-is_record.false)

pub returns-then-not-is_idle : goal.returns-then-not-is_idle
returns-then-not-is_idle c = let a = c.args in
    write_at_work_bytes a.bytes.now a.array.now a.security.now a.file.now (sized _ _ _ _ c.sizes_right.ensures (ap not c.if-not-sizes_right.false)) _ c.is_record.ensures.value _ c.is_record.ensures.kept (ap not c.if-not-is_record.false)
    _ c.is_idle.ensures (ap not c.if-not-is_idle.true)

pub idle_in-r-requires : goal.idle_in-r-requires
idle_in-r-requires c = let a = c.args in
    known_size a.bytes.now a.array.now a.security.now a.file.now (sized _ _ _ _ c.sizes_right.ensures (ap not c.if-not-sizes_right.false)) _ c.is_record.ensures.value _ c.is_record.ensures.kept (ap not c.if-not-is_record.false)

pub put_file-requires : goal.put_file-requires
put_file-requires c = let a = c.args in
    let z = sizes_of _ _ _ (sized a.array.now a.security.now a.file.now _ c.sizes_right.ensures (ap not c.if-not-sizes_right.false)) in
    (ap length c.is_record.ensures.kept ∙ z.file_size, (z.array_size, z.security_size))

pub returns : goal.returns
returns c = let a = c.args in
    write_done_bytes a.bytes.now a.array.now a.security.now a.file.now (sized _ _ _ _ c.sizes_right.ensures (ap not c.if-not-sizes_right.false)) _ c.is_record.ensures.value _ c.is_record.ensures.kept (ap not c.if-not-is_record.false)
    _ c.is_idle.ensures (ap not c.if-not-is_idle.false) _ c.idle_in-r.ensures _ c.put_file.ensures
