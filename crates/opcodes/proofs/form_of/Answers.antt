-- What is left of the opcodes is in no row, since each row's opcode is a key of an arm. Assumes nothing.
use mathlib.Core.Path.{refl, sym, ap, ◌∙◌}
use mathlib.Core.List.{[], ◌∷◌}
use Rattle.rules.specs.Frames.{frames, find, form_of}
use Rattle.opcodes.proofs.Arms.{no_row}
use Rattle.opcodes.proofs.form_of.Goals as goal
use Rattle.opcodes.proofs.form_of.Goals.{in-49-1, in_default-1}

pub returns-in-7-to-10 : goal.returns-in-7-to-10
unfolding form_of find frames
returns-in-7-to-10 c =
    c.exact-in-7-to-10.ensures
    ∙ sym (elim c.in-7-to-10-1.branch [
      | in-49-1 w ↦ ap form_of w.in-49-1.keys34
      | in_default-1 w ↦ no_row c.args.op (0x31 ∷ 0xFF ∷ 0xEC ∷ 0xE8 ∷ 0xD8 ∷ 0xC7 ∷ 0xC0 ∷ 0xB0 ∷ 0xAF ∷ 0xA5 ∷ 0x9F ∷ 0x99 ∷ 0x98 ∷ 0x8D ∷ 0x88 ∷ 0x85 ∷ 0x72 ∷ 0x6B ∷ 0x66 ∷ 0x42 ∷ 0x38 ∷ 0x35 ∷ 0x32 ∷ 0x30 ∷ 0x20 ∷ 0x0C ∷ 0x0B ∷ 0x06 ∷ 0x05 ∷ 0x04 ∷ 0x03 ∷ 0x02 ∷ 0x01 ∷ 0x00 ∷ []) frames refl w.in_default-1.rest
    ])
