-- Bytes that are no code, or the store of their record, whose code is put back. Assumes nothing.
use mathlib.Core.Path.{sym, ◌∙◌}
use Rattle.record_code.proofs.Faithful.{known_reserved}
use Rattle.stations.specs.Promises.{desk_of}
use Rattle.station_bench.proofs.Calls.{code_size, no_store, a_store}
use Rattle.station_bench.proofs.fulkibono_station_store.Goals as goal

pub returns-then-not-is_code : goal.returns-then-not-is_code
returns-then-not-is_code c = let a = c.args in no_store a.bytes.now (desk_of a.array.now a.security.now a.reply.now a.marks.now) c.is_code.ensures c.if-not-is_code.true a.station a.«data».now a.allowance a.list.now

pub chip_in-chip-requires : goal.chip_in-chip-requires
chip_in-chip-requires c = code_size _ (sym c.is_code.ensures ∙ c.if-not-is_code.false)

pub put_chip-requires : goal.put_chip-requires
put_chip-requires c = let e = sym c.is_code.ensures ∙ c.if-not-is_code.false in (code_size _ e, known_reserved _ e)

pub returns : goal.returns
returns c = let a = c.args in let l = c.store-r in
    a_store a.bytes.now (desk_of a.array.now a.security.now a.reply.now a.marks.now) c.is_code.ensures c.if-not-is_code.false (record { chip = c.chip_in-chip.result; number = 0; polls = 0 }) c.chip_in-chip.ensures l.result _ _ c.put_chip.ensures a.station a.«data».now a.allowance a.list.now l.ensures
