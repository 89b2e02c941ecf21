use Rattle.std.proofs.Common.{◌≡◌, ◌++◌, take}
use Rattle.image.specs.Form.{page_record, joined}
use Rattle.image.specs.Files.{page_place}
use Rattle.image_writing.proofs.put_pages.Given as goal

abbrev pub invariant-loop-n : goal.invariant-loop-n
invariant-loop-n l = take (page_place l.n) l.file ≡ take 2070 l.initial.file ++ joined (page_record l.array) l.n
