-- By what is tested first. Assumes nothing.
use Rattle.std.proofs.Common.{◌≡◌, true, false, not, sym, ap, ◌∙◌}
use Rattle.rules.specs.Fields.{chip_of}
use Rattle.rules.specs.Programs.{blank}
use Rattle.image.specs.Files.{right, chip_in}
use Rattle.image.specs.Promises.{read_of}
use Rattle.image.proofs.Outcomes.{sizes_of, sized, unsized, read_sizes, read_wrong, read_done}
use Rattle.image_reading.proofs.read.Goals as goal

pub returns-then-not-sizes_right : goal.returns-then-not-sizes_right
returns-then-not-sizes_right c =
    record { outcome = sym (read_sizes _ _ _ _ (unsized _ _ _ _ c.sizes_right.ensures (ap not c.if-not-sizes_right.true))) }

pub returns-then-is_some : goal.returns-then-is_some
returns-then-is_some c =
    let wrong : right c.args.file.now ≡ false = sym c.fault.ensures.tells ∙ ap not (sym c.is_some.ensures ∙ c.if-is_some.true) in
    record { outcome = sym (read_wrong _ _ _ _ (sized _ _ _ _ c.sizes_right.ensures (ap not c.if-not-sizes_right.false)) wrong) }

pub fill_array-requires : goal.fill_array-requires
fill_array-requires c =
    let s = sizes_of c.args.array.now c.args.security.now c.args.file.now (sized _ _ _ _ c.sizes_right.ensures (ap not c.if-not-sizes_right.false)) in
    (s.file_size, s.array_size)

pub fill_security-requires : goal.fill_security-requires
fill_security-requires c =
    let s = sizes_of c.args.array.now c.args.security.now c.args.file.now (sized _ _ _ _ c.sizes_right.ensures (ap not c.if-not-sizes_right.false)) in
    (s.file_size, s.security_size)

pub rest_in-rest-requires : goal.rest_in-rest-requires
rest_in-rest-requires c =
    (sizes_of c.args.array.now c.args.security.now c.args.file.now (sized _ _ _ _ c.sizes_right.ensures (ap not c.if-not-sizes_right.false))).file_size

pub returns : goal.returns
unfolding chip_in blank
returns c =
    let sound : right c.args.file.now ≡ true = sym c.fault.ensures.tells ∙ ap not (sym c.is_some.ensures ∙ c.if-is_some.false) in
    record {
      outcome =
          (λ i. read_of 0 (chip_of blank (c.rest_in-rest.ensures i)) (c.fill_array.ensures i) (c.fill_security.ensures i))
          ∙ sym (read_done c.args.c c.args.array.now c.args.security.now c.args.file.now (sized _ _ _ _ c.sizes_right.ensures (ap not c.if-not-sizes_right.false)) sound);
    }
