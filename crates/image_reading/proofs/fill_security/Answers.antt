use Prim.Native.Nat.{ℕ}
use mathlib.Core.Path.{◌≡◌, ◌∙◌}
use mathlib.Core.List.{List, ◌++◌, append-nil}
use native.Mathlib.Omega.{arith}
use lib.ListN.{length, drop_of_length-le}
use lib.Seq.{paste, take_all}
use Rattle.image.specs.Files.{part}
use Rattle.image.proofs.Parts.{length_part}
use Rattle.image_records.proofs.Laws.{paste_patched}
use Rattle.image_reading.proofs.fill_security.Goals as goal

-- put over all of it
whole : (id xs : List ℕ) → length id ≡ 2048 → length xs ≡ 2048 → paste id 0 xs 2048 ≡ xs
whole id xs e d =
    (λ i. take_all 2048 xs (omega arith) i ++ drop_of_length-le id {i = 2048} (omega arith) i) ∙ append-nil xs

pub returns : goal.returns
returns c = let l = c.args.file.now in
    let id = c.args.security.now in
    let size = c.requires.0 in
    let full = c.requires.1 in
    let long = length_part l 20 2048 (omega arith) in
    let e : c.copy.new.s ≡ paste id 0 (part l 20 2048) 2048 = paste_patched _ id l 0 2048 20 (omega arith) (omega arith) c.copy.ensures in
    e ∙ whole id (part l 20 2048) full long
