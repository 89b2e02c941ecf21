-- A chip as a file, over bytes: what the two functions give back is as promised, and each undoes the other. Assumes nothing.
use Prim.Native.Nat.{ℕ, ◌<◌}
use mathlib.Core.Path.{◌≡◌, refl, sym, ap, ◌∙◌}
use mathlib.Core.Bool.{Bool, true, false, not, ◌&&◌, ◌||◌, beq}
use mathlib.Core.List.{List, ◌++◌}
use native.Mathlib.Omega.{arith}
use lib.Dec.{eqb, ltb, leb, lit<}
use lib.ListN.{length, take, drop}
use borrow.Author.Tests.{eq-eqb, ne_eqb, ltb-true, not-true, not-false}
use Rattle.rules.specs.declared.Chip.{Chip}
use Rattle.rules.specs.declared.Rest.{Rest}
use Rattle.rules.specs.Words.{pick}
use Rattle.rules.specs.declared.Work.TheVariants.{Nothing}
use Rattle.rules.specs.Bursts.{last_burst}
use Rattle.rules.specs.Works.{is_nothing}
use Rattle.rules.specs.WellFormed.{well_formed}
use Rattle.rules.specs.Fields.{works_of, rest_of, chip_of}
use Rattle.rules.specs.Programs.{blank}
use Rattle.rules.specs.Commands.{new_chip}
use Rattle.rules.proofs.Bools.{and_split, same_flag, upto_at}
use Rattle.rules.proofs.WellFormed.{well_of}
use Rattle.numbering.specs.Numbering.{work_right, work_of}
use Rattle.image.specs.declared.Received.{Received}
use Rattle.image.specs.Form.{record_of, registers, page_record, joined, file_of}
use Rattle.image.specs.Files.{right, rest_in, chip_in, array_in, security_in}
use Rattle.image.specs.Promises.{posted_number, sizes_right, idle, Written, written_of, written, Read, read_of, read, ReadPromise}
use Rattle.image.specs.Laws.{Whole}
use Rattle.image.proofs.Outcomes.{sizes_of, write_sizes, write_broken, write_at_work, write_done, read_done}
use Rattle.image.proofs.Given.{sizes_right_lem, writing_gives, reading_gives, refusals_leave}
use Rattle.image.proofs.Laws.{reading_gives_back, writing_gives_the_same}
use Rattle.record_code.specs.Layout as layout
use Rattle.record_code.specs.Layout.{record_size, field_in, rest_code, code, is_code, NothingReserved, decode, Typed}
use Rattle.record_code.proofs.Faithful.{chip_in_lem, known_length, decode_code, code_decode}
use Rattle.bench.specs.Refusals.{OfBytes}
use Rattle.bench.specs.Images.{idle_of, image_written, WriteImagePromise, ImageRead, image_read_of, replaced, image_read, ReadImagePromise, ReadingGivesBackBytes, WritingGivesTheSameBytes, RefusalsLeaveTheBuffer, RefusalsLeaveTheChip}
use Rattle.bench.proofs.Calls.{page_size, rest_put}

-- ---- writing

-- a kind is 0 exactly where the work is nothing
kind_nothing : (k n : ℕ) → k < 9 → is_nothing (work_of k n) ≡ eqb k 0
unfolding work_of
kind_nothing k n h = same_flag _ _ (upto_at 9 (λ j. beq (is_nothing (work_of j n)) (eqb j 0)) refl k h)

kind_low : (k n : ℕ) → work_right k n ≡ true → k < 9
kind_low k n e =
    ltb-true k 9
    (and_split (ltb k 9) (not (eqb k 0 || eqb k 3 || eqb k 6) || eqb n 0)
    (and_split (ltb k 9 && (not (eqb k 0 || eqb k 3 || eqb k 6) || eqb n 0)) (not (eqb k 7) || ltb n 4) e).0).0

kinds_idle : (l : List ℕ) → is_code l ≡ true → idle (layout.rest_in l) ≡ (eqb (field_in l "running kind") 0 && eqb (field_in l "suspended kind") 0)
unfolding is_code layout.rest_in idle
kinds_idle l e =
    let r = work_right (field_in l "running kind") (field_in l "running number") in
    let s = work_right (field_in l "suspended kind") (field_in l "suspended number") in
    let b = leb (field_in l "burst") last_burst in
    let t₄ = (and_split (eqb (length l) record_size) (r && s && b && eqb (field_in l "reserved") 0) e).1 in
    let t₃ = (and_split (r && s && b) (eqb (field_in l "reserved") 0) t₄).0 in
    let t₁ = (and_split (r && s) b t₃).0 in
    let t = and_split r s t₁ in
    λ i. kind_nothing (field_in l "running kind") (field_in l "running number") (kind_low (field_in l "running kind") (field_in l "running number") t.0) i
    && kind_nothing (field_in l "suspended kind") (field_in l "suspended number") (kind_low (field_in l "suspended kind") (field_in l "suspended number") t.1) i

module _ (bytes array security file : List ℕ) where
  pub write_other_sizes : sizes_right array security file ≡ false → WriteImagePromise bytes array security file 1 file
  unfolding image_written
  write_other_sizes z = record { outcome = go (is_code bytes) }
    where
      go : (x : Bool) → written_of 1 file ≡ pick x (written (decode bytes).chip array security file) (written_of 1 file)
      go true = sym (write_sizes (decode bytes).chip array security file z)
      go false = refl

  module _ (z : sizes_right array security file ≡ true) (y : Bool) (ey : y ≡ ((decode bytes).known && well_formed (decode bytes).chip)) (file' : List ℕ) (kept : file' ≡ file) where
    pub write_no_record : not y ≡ true → WriteImagePromise bytes array security file 1 file'
    unfolding image_written
    write_no_record h = record { outcome = ap (written_of 1) kept ∙ go (is_code bytes) (sym ey ∙ not-true y h) }
      where
        go : (x : Bool) → (x && well_formed (decode bytes).chip) ≡ false → written_of 1 file ≡ pick x (written (decode bytes).chip array security file) (written_of 1 file)
        go true e = sym (write_broken (decode bytes).chip array security file z e)
        go false e = refl

    module _ (h : not y ≡ false) where
      known : is_code bytes ≡ true
      known = (and_split (is_code bytes) (well_formed (decode bytes).chip) (sym ey ∙ not-false y h)).0

      formed : well_formed (decode bytes).chip ≡ true
      formed = (and_split (is_code bytes) (well_formed (decode bytes).chip) (sym ey ∙ not-false y h)).1

      pub known_size : length bytes ≡ 320
      known_size = known_length bytes known

      rest_is : (decode bytes).chip.rest ≡ layout.rest_in bytes
      unfolding layout.chip_in
      rest_is = refl

      module _ (x : Bool) (ex : x ≡ (eqb (field_in bytes "running kind") 0 && eqb (field_in bytes "suspended kind") 0)) where
        idles : idle (decode bytes).chip.rest ≡ x
        idles = ap idle rest_is ∙ kinds_idle bytes known ∙ sym ex

        pub write_at_work_bytes : not x ≡ true → WriteImagePromise bytes array security file 14 file'
        unfolding image_written
        write_at_work_bytes n =
            record { outcome = ap (written_of 14) kept ∙ sym (rw known (write_at_work (decode bytes).chip array security file z formed (idles ∙ not-true x n))) }

        pub write_done_bytes : not x ≡ false → (r : Rest) → r ≡ rest_of (layout.rest_in bytes).locks (works_of Nothing Nothing) (layout.rest_in bytes).flags (layout.rest_in bytes).burst
            → (file'' : List ℕ) → file'' ≡ record_of "RG" (registers r) ++ record_of "SI" security ++ joined (page_record array) 8192 → WriteImagePromise bytes array security file 0 file''
        unfolding image_written file_of registers
        write_done_bytes n r er file'' e =
            record {
              outcome =
                  ap (written_of 0) (e ∙ ap (λ q. record_of "RG" (registers q) ++ record_of "SI" security ++ joined (page_record array) 8192) er
                  ∙ ap (λ q. record_of "RG" (registers q) ++ record_of "SI" security ++ joined (page_record array) 8192) (sym rest_is))
                  ∙ sym (rw known (write_done (decode bytes).chip array security file z formed (idles ∙ not-false x n)));
            }

-- ---- the record that is read

-- the page is blank, and what stands behind it is an idle record's
pub idle_put : (l p l' : List ℕ) (r : Rest) → length l ≡ record_size → length p ≡ length (take 256 l) → p ≡ blank
    → l' ≡ take 256 (p ++ drop 256 l) ++ rest_code (idle_of r).rest → l' ≡ code (idle_of r)
idle_put l p l' r size kept ep e = e ∙ rest_put l size p kept (idle_of r).rest ∙ (λ i. code (chip_of (ep i) (idle_of r).rest))

-- ---- reading

module _ (file bytes array security : List ℕ) where
  pub read_unsized : (length bytes ≡ record_size → ⊥) → ReadImagePromise file bytes array security (image_read_of 1 bytes array security)
  unfolding image_read
  read_unsized h = record { outcome = rw (ne_eqb (length bytes) record_size h) }

  -- the chip in a file is idle and has a blank page
  read_idle : (c : Chip) → (read c file array security).number ≡ 0 → (read c file array security).chip ≡ idle_of (read c file array security).chip.rest
  unfolding read chip_in rest_in
  read_idle c = go (sizes_right array security file) (right file)
    where
      came : Bool → Bool → Read
      came x y = pick (not x) (read_of 1 c array security) (pick (not y) (read_of 15 c array security) (read_of 0 (chip_in file) (array_in file) (security_in file)))

      go : (x y : Bool) → (came x y).number ≡ 0 → (came x y).chip ≡ idle_of (came x y).chip.rest
      go true true e = refl
      go true false e = absurd (omega arith)
      go false y e = absurd (omega arith)

  module _ (size : length bytes ≡ record_size) (c : Chip) (ec : c ≡ new_chip) (g : Received) (n : ℕ) (array' security' : List ℕ)
      (h : ReadPromise c file array security g array' security') (en : n ≡ posted_number g.answer) where
    -- what came, as the rules have it
    came_read : read_of n g.chip array' security' ≡ read new_chip file array security
    came_read = ap (λ (k : ℕ). read_of k g.chip array' security') en ∙ h.outcome ∙ ap (λ (d : Chip). read d file array security) ec

    of_read : ReadImagePromise file bytes array security (replaced bytes (read_of n g.chip array' security'))
    unfolding image_read
    of_read = record { outcome = rw (eq-eqb (length bytes) record_size size) (ap (replaced bytes) came_read) }

    pub read_refused : (n ≡ 0 → ⊥) → ReadImagePromise file bytes array security (image_read_of n bytes array' security')
    read_refused z = record { outcome = sym (rw (ne_eqb n 0 z)) ∙ of_read.outcome }

    pub read_taken : (l : List ℕ) → n ≡ 0 → l ≡ code (idle_of g.chip.rest) → ReadImagePromise file bytes array security (image_read_of 0 l array' security')
    read_taken l z el =
        let d : (read new_chip file array security).chip ≡ g.chip = sym (ap (λ (r : Read). r.chip) came_read) in
        let b = read_idle new_chip (sym (ap (λ (r : Read). r.number) came_read) ∙ z) in
        let s : code (idle_of g.chip.rest) ≡ code g.chip = ap code (sym (rw d at b)) in
        record { outcome = (λ i. image_read_of (sym z i) ((el ∙ s) i) array' security') ∙ sym (rw (eq-eqb n 0 z)) ∙ of_read.outcome }

-- ---- the bytes that are looked at

-- what is not refused with 1 is a record's code
module _ (bytes array security file file' : List ℕ) (n : ℕ) (w : WriteImagePromise bytes array security file n file') where
  of_code : (n ≡ 1 → ⊥) → (is_code bytes ≡ true) × (written_of n file' ≡ written (decode bytes).chip array security file)
  unfolding image_written
  of_code z = go (is_code bytes) refl w.outcome
    where
      go : (x : Bool) → is_code bytes ≡ x → written_of n file' ≡ pick x (written (decode bytes).chip array security file) (written_of 1 file)
          → (is_code bytes ≡ true) × (written_of n file' ≡ written (decode bytes).chip array security file)
      go true k p = (k, p)
      go false k p = absurd (z (ap (λ (o : Written). o.number) p))

-- and has a record's length
module _ (file bytes array security : List ℕ) (g : ImageRead) (h : ReadImagePromise file bytes array security g) where
  of_size : (g.number ≡ 1 → ⊥) → g ≡ replaced bytes (read new_chip file array security)
  unfolding image_read
  of_size z = go (eqb (length bytes) record_size) h.outcome
    where
      go : (x : Bool) → g ≡ pick x (replaced bytes (read new_chip file array security)) (image_read_of 1 bytes array security) → g ≡ replaced bytes (read new_chip file array security)
      go true p = p
      go false p = absurd (z (ap (λ (o : ImageRead). o.number) p))

-- ---- what is written and then read

pub reading_gives_back_bytes : ReadingGivesBackBytes
unfolding image_read
reading_gives_back_bytes bytes array security file file' bytes₁ array₁ security₁ g small hb ha hs w h =
    let k = of_code bytes array security file file' 0 w (λ e. omega arith) in
    let c = (decode bytes).chip in
    let d = (writing_gives c array security file).done.0 (sym (ap (λ (o : Written). o.number) k.1)) in
    let z = sizes_of array security file d.0 in
    let n = known_length bytes k.0 in
    let whole : Whole c array security = record { buffer_size = ap length (ap (λ (x : Chip). x.buffer) (chip_in_lem bytes)) ∙ page_size bytes n; formed = d.1.0; idles = d.1.1; array_size = z.array_size; security_size = z.security_size } in
    let b = reading_gives_back c array security whole in
    let f : file' ≡ file_of c array security = ap (λ (o : Written). o.file) (k.1 ∙ write_done c array security file d.0 d.1.0 d.1.1) in
    let sizes = sizes_right_lem array₁ security₁ (file_of c array security) (record { array_size = ha ∙ z.array_size; security_size = hs ∙ z.security_size; file_size = b.size }) in
    let r : read new_chip file' array₁ security₁ ≡ read_of 0 c array security = ap (λ (l : List ℕ). read new_chip l array₁ security₁) f
    ∙ read_done new_chip array₁ security₁ (file_of c array security) sizes b.is_right
    ∙ (λ i. read_of 0 (b.same_chip i) (b.same_array i) (b.same_security i)) in
    h.outcome
    ∙ rw (eq-eqb (length bytes₁) record_size (hb ∙ n)) (ap (replaced bytes₁) r)
    ∙ ap (λ (l : List ℕ). image_read_of 0 l array security) (code_decode bytes small k.0)

-- ---- what is read and then written

-- the chip in a right file is one that 320 bytes can hold
file_typed : (file : List ℕ) → OfBytes file → right file ≡ true → Typed (chip_in file)
unfolding chip_in rest_in
file_typed file small e =
    let w = (writing_gives_the_same file small e).whole in
    let r = (well_of (chip_in file) w.formed).registers in
    let p = r.low in
    let q = r.permanent_low in
    record { buffer = w.buffer_size; rest = record { protection = omega arith; permanent = omega arith; running = lit< tt; suspended = lit< tt } }

pub writing_gives_the_same_bytes : WritingGivesTheSameBytes
unfolding image_written
writing_gives_the_same_bytes file bytes array security bytes₁ array₁ security₁ file₁ file₂ n small hf h w =
    let e = of_size file bytes array security (image_read_of 0 bytes₁ array₁ security₁) h (λ e. omega arith) in
    let d = (reading_gives new_chip array security file).done.0 (sym (ap (λ (o : ImageRead). o.number) e)) in
    let z = sizes_of array security file d.0 in
    let b = writing_gives_the_same file small d.1 in
    let g : image_read_of 0 bytes₁ array₁ security₁ ≡ image_read_of 0 (code (chip_in file)) (array_in file) (security_in file) = e ∙ ap (replaced bytes) (read_done new_chip array security file d.0 d.1) in
    let c = decode_code (chip_in file) (file_typed file small d.1) in
    let sizes = sizes_right_lem (array_in file) (security_in file) file₁ (record { array_size = b.whole.array_size; security_size = b.whole.security_size; file_size = hf ∙ z.file_size }) in
    w.outcome
    ∙ (λ i. image_written (g i).bytes (g i).array (g i).security file₁)
    ∙ (λ i. pick (c i).known (written (c i).chip (array_in file) (security_in file) file₁) (written_of 1 file₁))
    ∙ write_done (chip_in file) (array_in file) (security_in file) file₁ sizes b.whole.formed b.whole.idles
    ∙ ap (written_of 0) b.same_file

-- ---- a refusal

pub refusals_leave_the_buffer : RefusalsLeaveTheBuffer
unfolding image_written
refusals_leave_the_buffer bytes array security file file' n w z = go (is_code bytes) w.outcome
  where
    go : (x : Bool) → written_of n file' ≡ pick x (written (decode bytes).chip array security file) (written_of 1 file) → file' ≡ file
    go true p = ap (λ (o : Written). o.file) p ∙ (refusals_leave (decode bytes).chip array security file).buffer (λ e. z (ap (λ (o : Written). o.number) p ∙ e))
    go false p = ap (λ (o : Written). o.file) p

pub refusals_leave_the_chip : RefusalsLeaveTheChip
unfolding image_read
refusals_leave_the_chip file bytes array security g h z = go (eqb (length bytes) record_size) h.outcome
  where
    came : Read
    came = read new_chip file array security

    -- the number alone is new
    left : (n : ℕ) → g ≡ image_read_of n bytes array security → g ≡ image_read_of g.number bytes array security
    left n p = p ∙ (λ i. image_read_of (sym p i).number bytes array security)

    go : (x : Bool) → g ≡ pick x (replaced bytes came) (image_read_of 1 bytes array security) → g ≡ image_read_of g.number bytes array security
    go true p =
        let nz : came.number ≡ 0 → ⊥ = λ e. z (ap (λ (o : ImageRead). o.number) p ∙ e) in
        let l = refusals_leave new_chip array security file in
        let q : pick (eqb came.number 0) (code came.chip) bytes ≡ bytes = rw (ne_eqb came.number 0 nz) in
        left came.number (p ∙ (λ i. image_read_of came.number (q i) (l.same_array nz i) (l.same_security nz i)))
    go false p = left 1 p
