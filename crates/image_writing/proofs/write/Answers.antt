-- By what is tested first. Assumes nothing.
use Rattle.std.proofs.Common.{not, sym, ap, ◌∙◌}
use Rattle.image.specs.Form.{file_of}
use Rattle.image.specs.Promises.{written_of}
use Rattle.image.proofs.Outcomes.{sizes_of, sized, unsized, write_sizes, write_broken, write_at_work, write_done}
use Rattle.image_writing.proofs.write.Goals as goal

pub returns-then-not-sizes_right : goal.returns-then-not-sizes_right
returns-then-not-sizes_right c =
    record { outcome = sym (write_sizes c.args.c _ _ _ (unsized _ _ _ _ c.sizes_right.ensures (ap not c.if-not-sizes_right.true))) }

pub returns-then-not-well_formed : goal.returns-then-not-well_formed
returns-then-not-well_formed c =
    record { outcome = sym (write_broken c.args.c _ _ _ (sized _ _ _ _ c.sizes_right.ensures (ap not c.if-not-sizes_right.false)) (sym c.well_formed-2.ensures ∙ c.if-not-well_formed.true)) }

pub returns-then-not-is_idle : goal.returns-then-not-is_idle
returns-then-not-is_idle c =
    record {
      outcome =
          sym (write_at_work c.args.c _ _ _ (sized _ _ _ _ c.sizes_right.ensures (ap not c.if-not-sizes_right.false)) (sym c.well_formed-2.ensures ∙ c.if-not-well_formed.false)
          (sym c.is_idle.ensures ∙ c.if-not-is_idle.true));
    }

pub put_file-requires : goal.put_file-requires
put_file-requires c =
    let s = sizes_of c.args.array.now c.args.security.now c.args.file.now (sized _ _ _ _ c.sizes_right.ensures (ap not c.if-not-sizes_right.false)) in
    (s.file_size, (s.array_size, s.security_size))

pub returns : goal.returns
unfolding file_of
returns c =
    record {
      outcome =
          ap (written_of 0) c.put_file.ensures
          ∙ sym (write_done c.args.c c.args.array.now c.args.security.now c.args.file.now (sized _ _ _ _ c.sizes_right.ensures (ap not c.if-not-sizes_right.false))
          (sym c.well_formed-2.ensures ∙ c.if-not-well_formed.false) (sym c.is_idle.ensures ∙ c.if-not-is_idle.false));
    }
