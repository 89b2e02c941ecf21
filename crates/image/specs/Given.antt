-- Which number each function gives, exactly when. "Refusals: 1 for wrong lengths or, writing, a broken record; 14 for a busy or suspended chip; 15 for a wrong
-- mark, sum, page number, code, .. or register that breaks the well-formed rules"; flag bit 7 is the part since W-204. Proved in proofs/Given.
use Rattle.std.specs.Prelude.{ℕ, ◌≤◌, ◌<◌, ◌≡◌, true, false, List, ◌↔◌, length}
use Rattle.rules.specs.declared.Chip.{Chip}
use Rattle.rules.specs.declared.Work.TheVariants.{Nothing}
use Rattle.rules.specs.Texts.{ascii}
use Rattle.rules.specs.WellFormed.{well_formed, locks_right}
use Rattle.image.specs.Form.{number, sum}
use Rattle.image.specs.Files.{mark_in, sum_in, body_in, page_place, locks_in, burst_byte_in, number_in, right}
use Rattle.image.specs.Promises.{sizes_right, idle, written, read}

-- ---- the conditions, in words

pub record RightSizes (array security file : List ℕ) : Type 0 where
  pub array_size : length array ≡ 2_097_152
  pub security_size : length security ≡ 2_048
  pub file_size : length file ≡ 2_148_374

pub record Idle (c : Chip) : Type 0 where
  pub running : c.rest.works.running ≡ Nothing
  pub suspended : c.rest.works.suspended ≡ Nothing

pub record RightFile (l : List ℕ) : Type 0 where
  pub size : length l ≡ 2_148_374
  pub mark_rg : mark_in l 0 ≡ number (ascii "RG")
  pub sum_rg : sum_in l 0 14 ≡ sum (body_in l 0 14)
  pub code : burst_byte_in l ≤ 0x03
  pub registers : locks_right (locks_in l) ≡ true
  pub mark_si : mark_in l 18 ≡ number (ascii "SI")
  pub sum_si : sum_in l 18 2_048 ≡ sum (body_in l 18 2_048)
  pub mark_pg : (n : ℕ) → n < 8_192 → mark_in l (page_place n) ≡ number (ascii "PG")
  pub sum_pg : (n : ℕ) → n < 8_192 → sum_in l (page_place n) 258 ≡ sum (body_in l (page_place n) 258)
  pub page_number : (n : ℕ) → n < 8_192 → number_in l n ≡ n

pub record Conditions (c : Chip) (array security file : List ℕ) : Type 0 where
  pub sizes : (sizes_right array security file ≡ true) ↔ RightSizes array security file
  pub idles : (idle c.rest ≡ true) ↔ Idle c
  pub file_right : (right file ≡ true) ↔ RightFile file

-- ---- the numbers

pub record WritingGives (c : Chip) (array security file : List ℕ) : Type 0 where
  pub one : ((written c array security file).number ≡ 1) ↔ ((sizes_right array security file ≡ true) × (well_formed c ≡ true) → ⊥)
  pub fourteen : ((written c array security file).number ≡ 14) ↔ ((sizes_right array security file ≡ true) × ((well_formed c ≡ true) × (idle c.rest ≡ false)))
  pub done : ((written c array security file).number ≡ 0) ↔ ((sizes_right array security file ≡ true) × ((well_formed c ≡ true) × (idle c.rest ≡ true)))

pub record ReadingGives (c : Chip) (file array security : List ℕ) : Type 0 where
  pub one : ((read c file array security).number ≡ 1) ↔ (sizes_right array security file ≡ false)
  pub fifteen : ((read c file array security).number ≡ 15) ↔ ((sizes_right array security file ≡ true) × (right file ≡ false))
  pub done : ((read c file array security).number ≡ 0) ↔ ((sizes_right array security file ≡ true) × (right file ≡ true))

-- ---- a refusal leaves the buffer, and the record, the array and the Security ID, as they were

pub record RefusalsLeave (c : Chip) (file array security : List ℕ) : Type 0 where
  pub buffer : ((written c array security file).number ≡ 0 → ⊥) → (written c array security file).file ≡ file
  pub chip : ((read c file array security).number ≡ 0 → ⊥) → (read c file array security).chip ≡ c
  pub same_array : ((read c file array security).number ≡ 0 → ⊥) → (read c file array security).array ≡ array
  pub same_security : ((read c file array security).number ≡ 0 → ⊥) → (read c file array security).security ≡ security
