use Rattle.std.proofs.Common.{◌≡◌, ◌+◌, ◌*◌, ◌++◌, take}
use Rattle.image.specs.Form.{joined}
use Rattle.image.specs.Files.{page_in}
use Rattle.image_reading.proofs.fill_array.Given as goal

abbrev pub invariant-loop-n : goal.invariant-loop-n
invariant-loop-n l = take (0 + l.n * 256) l.array ≡ take 0 l.initial.array ++ joined (page_in l.file) l.n
