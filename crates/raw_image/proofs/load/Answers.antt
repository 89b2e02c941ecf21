-- All of the array is replaced, or nothing. Assumes nothing.
use Rattle.std.proofs.Common.{◌≡◌, sym, ◌∙◌, ap, is_ok, length}
use Rattle.std.proofs.lemmas.Result.{err_from_is_err_and}
use Rattle.raw_image.specs.Raw.{raw_answer, whole}
use Rattle.raw_image.proofs.Compared.{passes, refuses, sizes}
use Rattle.raw_image.proofs.load.Goals as goal

pub returns-in_err-sized : goal.returns-in_err-sized
returns-in_err-sized c =
    let p = err_from_is_err_and c.from_residual.result c.from_residual.ensures.1 in
    let short = refuses _ _ _ c.sized.ensures (ap is_ok c.in_err-sized.was) in
    record { answer_is = rw (p.1, p.2) (sym c.in_err-sized.was ∙ c.sized.ensures); array_is = rw short }

pub copy_from_slice-requires : goal.copy_from_slice-requires
copy_from_slice-requires c = let s = sizes (length c.args.array.now) (length c.args.file.now) (passes _ _ _ c.sized.ensures (ap is_ok c.in_ok-sized.was)) in s.0 ∙ sym s.1

pub returns : goal.returns
returns c =
    let fits = passes _ _ _ c.sized.ensures (ap is_ok c.in_ok-sized.was) in
    record { answer_is = sym c.in_ok-sized.was ∙ c.sized.ensures; array_is = rw fits c.copy_from_slice.ensures.after }
