-- Each number exactly when. Assumes nothing.
use Prim.Native.Nat.{ℕ}
use Prim.Native.String.{String}
use mathlib.Core.Path.{◌≡◌, refl, sym, ap, ◌∙◌}
use mathlib.Core.Bool.{Bool, true, false, true≢false}
use mathlib.Core.List.{List}
use native.Mathlib.Omega.{arith}
use lib.Dec.{eqb, leb}
use borrow.Author.Tests.{eqb-true, eq-eqb, le-leb}
use Rattle.rules.specs.declared.Chip.{Chip}
use Rattle.rules.specs.Texts.{ascii}
use Rattle.rules.specs.Bursts.{last_burst}
use Rattle.rules.specs.WellFormed.{well_formed}
use Rattle.rules.proofs.Bools.{and_split, and_both}
use Rattle.image.specs.Form.{number, sum}
use Rattle.image.specs.Files.{page_place, mark_in, sum_in, body_in, record_right, burst_byte_in, page_right_lem, registers_right, right}
use Rattle.image.specs.Promises.{sizes_right, idle, written, read_of, read}
use Rattle.image.specs.Given.{RightSizes, Idle, RightFile, Conditions, WritingGives, ReadingGives, RefusalsLeave}
use Rattle.image.proofs.Outcomes.{sizes_of, write_sizes, write_broken, write_at_work, write_done, read_sizes, read_wrong, read_done}
use Rattle.image.proofs.Parts.{first_intro}
use Rattle.image.proofs.Laws.{right_of, idles_both}

-- ---- the conditions

pub sizes_right_lem : (array security file : List ℕ) → RightSizes array security file → sizes_right array security file ≡ true
unfolding sizes_right
sizes_right_lem array security file h = and_both (and_both (eq-eqb _ _ h.array_size) (eq-eqb _ _ h.security_size)) (eq-eqb _ _ h.file_size)

idle_right : (c : Chip) → Idle c → idle c.rest ≡ true
unfolding idle
idle_right c h = rw (h.running, h.suspended)

-- a record's two tests
both_of : (mark : String) (l : List ℕ) (at n : ℕ) → record_right mark l at n ≡ true → (mark_in l at ≡ number (ascii mark)) × (sum_in l at n ≡ sum (body_in l at n))
unfolding record_right
both_of mark l at n e =
    let t = and_split (eqb (mark_in l at) (number (ascii mark))) (eqb (sum_in l at n) (sum (body_in l at n))) e in
    (eqb-true _ _ t.0, eqb-true _ _ t.1)

both_right : (mark : String) (l : List ℕ) (at n : ℕ) → mark_in l at ≡ number (ascii mark) → sum_in l at n ≡ sum (body_in l at n) → record_right mark l at n ≡ true
unfolding record_right
both_right mark l at n p q = and_both (eq-eqb _ _ p) (eq-eqb _ _ q)

file_of_lem : (l : List ℕ) → right l ≡ true → RightFile l
file_of_lem l e =
    let t = right_of l e in
    let rg = both_of "RG" l 0 14 t.front in
    let si = both_of "SI" l 18 2048 t.middle in
    record {
      size = t.size;
      mark_rg = rg.0;
      sum_rg = rg.1;
      code = t.burst;
      registers = t.locks;
      mark_si = si.0;
      sum_si = si.1;
      mark_pg = λ n h. (both_of "PG" l (page_place n) 258 (t.page n h)).0;
      sum_pg = λ n h. (both_of "PG" l (page_place n) 258 (t.page n h)).1;
      page_number = t.number_is;
    }

file_right : (l : List ℕ) → RightFile l → right l ≡ true
unfolding right registers_right page_right_lem
file_right l h =
    let b : leb (burst_byte_in l) last_burst ≡ true = le-leb _ _ h.code in
    and_both
    (and_both
    (and_both (and_both (eq-eqb _ _ h.size) (both_right "RG" l 0 14 h.mark_rg h.sum_rg)) (and_both b h.registers))
    (both_right "SI" l 18 2048 h.mark_si h.sum_si))
    (first_intro (page_right_lem l) 8192 (λ n k. and_both (both_right "PG" l (page_place n) 258 (h.mark_pg n k) (h.sum_pg n k)) (eq-eqb _ _ (h.page_number n k))))

pub conditions : (c : Chip) (array security file : List ℕ) → Conditions c array security file
conditions c array security file =
    record {
      sizes = (sizes_of array security file, sizes_right_lem array security file);
      idles = (λ e. let t = idles_both c.rest e in record { running = t.0; suspended = t.1 }, idle_right c);
      file_right = (file_of_lem file, file_right file);
    }

-- ---- the numbers

-- a test that holds or does not
data Told (b : Bool) : Type 0 where
  holds : b ≡ true → Told b
  fails : b ≡ false → Told b

tell : (b : Bool) → Told b
tell true = holds refl
tell false = fails refl

apart : {b : Bool} → b ≡ true → b ≡ false → ⊥
apart p q = true≢false (sym p ∙ q)

module _ (c : Chip) (array security file : List ℕ) where
  at_sizes : sizes_right array security file ≡ false → (written c array security file).number ≡ 1
  at_sizes x = ap (λ o. o.number) (write_sizes c array security file x)

  at_broken : sizes_right array security file ≡ true → well_formed c ≡ false → (written c array security file).number ≡ 1
  at_broken x y = ap (λ o. o.number) (write_broken c array security file x y)

  at_work : sizes_right array security file ≡ true → well_formed c ≡ true → idle c.rest ≡ false → (written c array security file).number ≡ 14
  at_work x y z = ap (λ o. o.number) (write_at_work c array security file x y z)

  at_done : sizes_right array security file ≡ true → well_formed c ≡ true → idle c.rest ≡ true → (written c array security file).number ≡ 0
  at_done x y z = ap (λ o. o.number) (write_done c array security file x y z)

  pub writing_gives : WritingGives c array security file
  writing_gives = go (tell (sizes_right array security file)) (tell (well_formed c)) (tell (idle c.rest))
    where
      go : Told (sizes_right array security file) → Told (well_formed c) → Told (idle c.rest) → WritingGives c array security file
      go (fails x) y z =
          let n = at_sizes x in
          record {
            one = (λ e h. apart h.0 x, λ h. n);
            fourteen = (λ e. absurd (omega arith), λ h. absurd (apart h.0 x));
            done = (λ e. absurd (omega arith), λ h. absurd (apart h.0 x));
          }
      go (holds x) (fails y) z =
          let n = at_broken x y in
          record {
            one = (λ e h. apart h.1 y, λ h. n);
            fourteen = (λ e. absurd (omega arith), λ h. absurd (apart h.1.0 y));
            done = (λ e. absurd (omega arith), λ h. absurd (apart h.1.0 y));
          }
      go (holds x) (holds y) (fails z) =
          let n = at_work x y z in
          record {
            one = (λ e. absurd (omega arith), λ h. absurd (h (x, y)));
            fourteen = (λ e. (x, (y, z)), λ h. n);
            done = (λ e. absurd (omega arith), λ h. absurd (apart h.1.1 z));
          }
      go (holds x) (holds y) (holds z) =
          let n = at_done x y z in
          record {
            one = (λ e. absurd (omega arith), λ h. absurd (h (x, y)));
            fourteen = (λ e. absurd (omega arith), λ h. absurd (apart z h.1.1));
            done = (λ e. (x, (y, z)), λ h. n);
          }

  read_small : sizes_right array security file ≡ false → (read c file array security).number ≡ 1
  read_small x = ap (λ o. o.number) (read_sizes c array security file x)

  read_refused : sizes_right array security file ≡ true → right file ≡ false → (read c file array security).number ≡ 15
  read_refused x y = ap (λ o. o.number) (read_wrong c array security file x y)

  read_well : sizes_right array security file ≡ true → right file ≡ true → (read c file array security).number ≡ 0
  read_well x y = ap (λ o. o.number) (read_done c array security file x y)

  pub reading_gives : ReadingGives c file array security
  reading_gives = go (tell (sizes_right array security file)) (tell (right file))
    where
      go : Told (sizes_right array security file) → Told (right file) → ReadingGives c file array security
      go (fails x) y =
          let n = read_small x in
          record {
            one = (λ e. x, λ h. n);
            fifteen = (λ e. absurd (omega arith), λ h. absurd (apart h.0 x));
            done = (λ e. absurd (omega arith), λ h. absurd (apart h.0 x));
          }
      go (holds x) (fails y) =
          let n = read_refused x y in
          record {
            one = (λ e. absurd (omega arith), λ h. absurd (apart x h));
            fifteen = (λ e. (x, y), λ h. n);
            done = (λ e. absurd (omega arith), λ h. absurd (apart h.1 y));
          }
      go (holds x) (holds y) =
          let n = read_well x y in
          record {
            one = (λ e. absurd (omega arith), λ h. absurd (apart x h));
            fifteen = (λ e. absurd (omega arith), λ h. absurd (apart y h.1));
            done = (λ e. (x, y), λ h. n);
          }

  -- what a refusal leaves
  same_buffer : Told (sizes_right array security file) → Told (well_formed c) → Told (idle c.rest) → ((written c array security file).number ≡ 0 → ⊥)
      → (written c array security file).file ≡ file
  same_buffer (fails x) y z n = ap (λ o. o.file) (write_sizes c array security file x)
  same_buffer (holds x) (fails y) z n = ap (λ o. o.file) (write_broken c array security file x y)
  same_buffer (holds x) (holds y) (fails z) n = ap (λ o. o.file) (write_at_work c array security file x y z)
  same_buffer (holds x) (holds y) (holds z) n = absurd (n (at_done x y z))

  same_read : Told (sizes_right array security file) → Told (right file) → ((read c file array security).number ≡ 0 → ⊥)
      → read c file array security ≡ read_of (read c file array security).number c array security
  same_read (fails x) y n = let e = read_sizes c array security file x in e ∙ ap (λ o. read_of o.number c array security) (sym e)
  same_read (holds x) (fails y) n = let e = read_wrong c array security file x y in e ∙ ap (λ o. read_of o.number c array security) (sym e)
  same_read (holds x) (holds y) n = absurd (n (read_well x y))

  pub refusals_leave : RefusalsLeave c file array security
  refusals_leave =
      let same = same_read (tell (sizes_right array security file)) (tell (right file)) in
      record {
        buffer = same_buffer (tell (sizes_right array security file)) (tell (well_formed c)) (tell (idle c.rest));
        chip = λ n. ap (λ o. o.chip) (same n);
        same_array = λ n. ap (λ o. o.array) (same n);
        same_security = λ n. ap (λ o. o.security) (same n);
      }
