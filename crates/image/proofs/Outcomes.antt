-- The outcomes one by one. Assumes nothing.
use Prim.Native.Nat.{ℕ}
use mathlib.Core.Path.{◌≡◌, sym, ◌∙◌}
use mathlib.Core.Bool.{Bool, true, false, not, ◌&&◌}
use mathlib.Core.List.{List}
use lib.Dec.{eqb}
use lib.ListN.{length}
use borrow.Author.Tests.{eqb-true, not-true, not-false}
use Rattle.rules.specs.declared.Chip.{Chip}
use Rattle.rules.specs.Blocks.{array_size_lem, security_size_lem}
use Rattle.rules.specs.WellFormed.{well_formed}
use Rattle.rules.proofs.Bools.{and_split}
use Rattle.image.specs.Form.{file_of, file_size_lem}
use Rattle.image.specs.Files.{right, chip_in, array_in, security_in}
use Rattle.image.specs.Given.{RightSizes}
use Rattle.image.specs.Promises.{sizes_right, idle, written_of, written, read_of, read}

pub sizes_of : (array security file : List ℕ) → sizes_right array security file ≡ true → RightSizes array security file
unfolding sizes_right
sizes_of array security file e =
    let h₂ = and_split _ (eqb (length file) file_size_lem) e in
    let h₁ = and_split (eqb (length array) array_size_lem) (eqb (length security) security_size_lem) h₂.0 in
    record { array_size = eqb-true _ _ h₁.0; security_size = eqb-true _ _ h₁.1; file_size = eqb-true _ _ h₂.1 }

-- what a test of the sizes says
pub sized : (array security file : List ℕ) (x : Bool) → x ≡ (eqb (length array) array_size_lem && eqb (length security) security_size_lem && eqb (length file) file_size_lem) → not x ≡ false
    → sizes_right array security file ≡ true
unfolding sizes_right
sized array security file x e h = sym e ∙ not-false x h

pub unsized : (array security file : List ℕ) (x : Bool) → x ≡ (eqb (length array) array_size_lem && eqb (length security) security_size_lem && eqb (length file) file_size_lem) → not x ≡ true
    → sizes_right array security file ≡ false
unfolding sizes_right
unsized array security file x e h = sym e ∙ not-true x h

module _ (c : Chip) (array security file : List ℕ) where
  pub write_sizes : sizes_right array security file ≡ false → written c array security file ≡ written_of 1 file
  unfolding written
  write_sizes x = rw x

  pub write_broken : sizes_right array security file ≡ true → well_formed c ≡ false → written c array security file ≡ written_of 1 file
  unfolding written
  write_broken x y = rw (x, y)

  pub write_at_work : sizes_right array security file ≡ true → well_formed c ≡ true → idle c.rest ≡ false → written c array security file ≡ written_of 14 file
  unfolding written
  write_at_work x y z = rw (x, y, z)

  pub write_done : sizes_right array security file ≡ true → well_formed c ≡ true → idle c.rest ≡ true
      → written c array security file ≡ written_of 0 (file_of c array security)
  unfolding written
  write_done x y z = rw (x, y, z)

  pub read_sizes : sizes_right array security file ≡ false → read c file array security ≡ read_of 1 c array security
  unfolding read
  read_sizes x = rw x

  pub read_wrong : sizes_right array security file ≡ true → right file ≡ false → read c file array security ≡ read_of 15 c array security
  unfolding read
  read_wrong x y = rw (x, y)

  pub read_done : sizes_right array security file ≡ true → right file ≡ true
      → read c file array security ≡ read_of 0 (chip_in file) (array_in file) (security_in file)
  unfolding read
  read_done x y = rw (x, y)
