-- The chip that was written is read again, and the file that was read is written again. Assumes nothing.
use Prim.Native.Nat.{ℕ, zero, suc, ◌+◌, ◌*◌, ◌≤◌, ◌<◌}
use mathlib.Core.Path.{◌≡◌, refl, sym, ap, ◌∙◌}
use mathlib.Core.Bool.{true}
use mathlib.Core.List.{List, [], ◌∷◌, ◌++◌, append_assoc}
use native.Mathlib.Omega.{arith}
use native.Mathlib.Decide.{ℕ_discrete}
use lib.Dec.{eqb, leb}
use lib.ListN.{length, get_or, take, drop, replicate, length-append, take-append-drop, get_or-replicate, length-drop}
use lib.Seq.{take_at, drop_at, take_all, get_or-take, get_or-drop, drop-drop, drop-cons, ext_get_or}
use borrow.Author.Tests.{eqb-true, eq-eqb, leb-true, le-leb}
use Rattle.rules.specs.declared.Burst.{Burst}
use Rattle.rules.specs.declared.Chip.{Chip}
use Rattle.rules.specs.declared.Flags.{Flags}
use Rattle.rules.specs.declared.Rest.{Rest}
use Rattle.rules.specs.declared.Work.{Work}
use Rattle.rules.specs.Blocks.{array_size_lem, security_size_lem}
use Rattle.rules.specs.Bursts.{burst_byte, last_burst, burst_of}
use Rattle.rules.specs.Programs.{blank}
use Rattle.rules.specs.Works.{is_nothing}
use Rattle.rules.specs.Fields.{locks_of, works_of, rest_of, chip_of, flags_number, flags_in}
use Rattle.rules.specs.WellFormed.{locks_right, first_ff}
use Rattle.rules.proofs.Bools.{and_split, and_both}
use Rattle.rules.proofs.Blocks.{unlocked_nowhere}
use Rattle.rules.proofs.LockBits.{Registers, registers_of_lem, registers_right_lem}
use Rattle.rules.proofs.WellFormed.{Well, well_of, well_right, nothing}
use Rattle.rules.proofs.Fields.{flags_back, flags_kept, burst_back, burst_kept}
use Rattle.image.specs.Form.{high_first, number, record_of, registers, page_of, page_record, joined, file_of}
use Rattle.image.specs.Files.{part, page_place, body_in, record_right, locks_in, flags_byte_in, burst_byte_in, number_in, page_in, page_right_lem, first_hold, registers_right, right, rest_in, chip_in, security_in, array_in}
use Rattle.image.specs.Promises.{idle}
use Rattle.image.specs.Laws.{OfBytes, Whole, ReadingGivesBack, WritingGivesTheSame, ExactlyOneChip}
use Rattle.image.proofs.Bytes.{length_high, number_high, high_number}
use Rattle.image.proofs.Parts.{length_part, part_part, part_add, Each, length_joined, part_joined, joined_parts, joined_same, first_intro, first_at}
use Rattle.image.proofs.Records.{IsMark, length_record, record_there, right_record, part_bytes}

-- ---- the marks

two_bytes : (a b : ℕ) → a < 256 → b < 256 → OfBytes (a ∷ b ∷ [])
two_bytes a b h k zero = h
two_bytes a b h k (suc zero) = k
two_bytes a b h k (suc (suc i)) = omega arith

rg : IsMark "RG"
rg = record { two = refl; bytes = two_bytes 0x52 0x47 (omega arith) (omega arith) }

si : IsMark "SI"
si = record { two = refl; bytes = two_bytes 0x53 0x49 (omega arith) (omega arith) }

pg : IsMark "PG"
pg = record { two = refl; bytes = two_bytes 0x50 0x47 (omega arith) (omega arith) }

-- ---- what a file is made of

pub length_registers : (r : Rest) → length (registers r) ≡ 14
unfolding registers
length_registers r =
    let p = length_high 6 r.locks.protection in
    let q = length_high 6 r.locks.permanent in
    rw (length-append, length-append, p, q)

pub length_front : (r : Rest) → length (record_of "RG" (registers r)) ≡ 18
length_front r = let s = length_registers r in let e = length_record "RG" (registers r) rg in omega arith

pub length_middle : (security : List ℕ) → length security ≡ security_size_lem → length (record_of "SI" security) ≡ 2052
length_middle security s = let e = length_record "SI" security si in omega arith

pub length_page : (array : List ℕ) → length array ≡ array_size_lem → (n : ℕ) → n < 8192 → length (page_of array n) ≡ 256
length_page array s n h = length_part array (n * 256) 256 (omega arith)

pub length_body : (array : List ℕ) → length array ≡ array_size_lem → (n : ℕ) → n < 8192 → length (high_first 2 n ++ page_of array n) ≡ 258
length_body array s n h = let p = length_page array s n h in let q = length_high 2 n in rw (length-append, p, q)

pub length_pages : (array : List ℕ) → length array ≡ array_size_lem → Each (page_record array) 8192 262
length_pages array s n h = let b = length_body array s n h in let t = length_record "PG" (high_first 2 n ++ page_of array n) pg in omega arith

module _ (c : Chip) (array security : List ℕ) (w : Whole c array security) where
  pages : Each (page_record array) 8192 262
  pages = length_pages array w.array_size

  length_back : length (joined (page_record array) 8192) ≡ 2146304
  length_back = length_joined (page_record array) 262 8192 pages

  length_file : length (file_of c array security) ≡ 2148374
  unfolding file_of
  length_file =
      let a = length_front c.rest in
      let b = length_middle security w.security_size in
      let d = length_back in
      rw (length-append, length-append, a, b, d)

  first_there : part (file_of c array security) 0 18 ≡ record_of "RG" (registers c.rest)
  unfolding file_of
  first_there = rw append_assoc (take_at (record_of "RG" (registers c.rest)) (record_of "SI" security ++ joined (page_record array) 8192) 18 (length_front c.rest))

  second_there : part (file_of c array security) 18 2052 ≡ record_of "SI" security
  unfolding file_of
  second_there =
      rw append_assoc
      (ap (take 2052) (drop_at (record_of "RG" (registers c.rest)) (record_of "SI" security ++ joined (page_record array) 8192) 18 (length_front c.rest))
      ∙ take_at (record_of "SI" security) (joined (page_record array) 8192) 2052 (length_middle security w.security_size))

  page_there : (n : ℕ) → n < 8192 → part (file_of c array security) (2070 + n * 262) 262 ≡ page_record array n
  unfolding file_of
  page_there n h =
      let a = length_front c.rest in
      let b = length_middle security w.security_size in
      let size : length (record_of "RG" (registers c.rest) ++ record_of "SI" security) ≡ 2070 = rw (length-append, a, b) in
      ap (take 262) (sym (drop-drop (n * 262) 2070 (record_of "RG" (registers c.rest) ++ record_of "SI" security ++ joined (page_record array) 8192)))
      ∙ ap (λ r. take 262 (drop (n * 262) r)) (drop_at (record_of "RG" (registers c.rest) ++ record_of "SI" security) (joined (page_record array) 8192) 2070 size)
      ∙ part_joined (page_record array) 262 8192 pages n h

  -- each record is right, and its body is its own
  registers_there : (record_right "RG" (file_of c array security) 0 14 ≡ true) × (body_in (file_of c array security) 0 14 ≡ registers c.rest)
  registers_there = record_there "RG" (registers c.rest) (file_of c array security) 0 14 rg (length_registers c.rest) first_there

  security_there : (record_right "SI" (file_of c array security) 18 2048 ≡ true) × (body_in (file_of c array security) 18 2048 ≡ security)
  security_there = record_there "SI" security (file_of c array security) 18 2048 si w.security_size second_there

  body_there : (n : ℕ) → n < 8192
      → (record_right "PG" (file_of c array security) (page_place n) 258 ≡ true) × (body_in (file_of c array security) (page_place n) 258 ≡ high_first 2 n ++ page_of array n)
  body_there n h = record_there "PG" (high_first 2 n ++ page_of array n) (file_of c array security) (page_place n) 258 pg (length_body array w.array_size n h) (page_there n h)

  -- the page's number, and the page
  number_there : (n : ℕ) → n < 8192 → number_in (file_of c array security) n ≡ n
  number_there n h =
      let e : page_place n + 2 + 0 ≡ page_place n + 2 = omega arith in
      ap number
      ((rw e at (sym (part_part (file_of c array security) (page_place n + 2) 258 0 2 (omega arith))))
      ∙ ap (λ r. part r 0 2) (body_there n h).1
      ∙ take_at (high_first 2 n) (page_of array n) 2 (length_high 2 n))
      ∙ number_high 2 n (omega arith)

  content_there : (n : ℕ) → n < 8192 → page_in (file_of c array security) n ≡ page_of array n
  content_there n h =
      let e : page_place n + 2 + 2 ≡ page_place n + 4 = omega arith in
      (rw e at (sym (part_part (file_of c array security) (page_place n + 2) 258 2 256 (omega arith))))
      ∙ ap (λ r. part r 2 256) (body_there n h).1
      ∙ ap (take 256) (drop_at (high_first 2 n) (page_of array n) 2 (length_high 2 n))
      ∙ take_all 256 (page_of array n) (let s = length_page array w.array_size n h in omega arith)

  -- the registers' body, part by part
  register_part : (i m : ℕ) → i + m ≤ 14 → part (file_of c array security) (2 + i) m ≡ part (registers c.rest) i m
  register_part i m h = sym (part_part (file_of c array security) 2 14 i m h) ∙ ap (λ r. part r i m) registers_there.1

  register_byte : (i : ℕ) → i < 14 → get_or (file_of c array security) (2 + i) 0 ≡ get_or (registers c.rest) i 0
  register_byte i h =
      sym (get_or-drop 2 (file_of c array security) i 0) ∙ sym (get_or-take 14 (drop 2 (file_of c array security)) i 0 h) ∙ ap (λ r. get_or r i 0) registers_there.1

-- what the registers' body holds
protection_held : (r : Rest) → part (registers r) 0 6 ≡ high_first 6 r.locks.protection
unfolding registers
protection_held r =
    rw append_assoc
    (take_at (high_first 6 r.locks.protection) (high_first 6 r.locks.permanent ++ flags_number r.flags ∷ burst_byte r.burst ∷ []) 6 (length_high 6 r.locks.protection))

permanent_held : (r : Rest) → part (registers r) 6 6 ≡ high_first 6 r.locks.permanent
unfolding registers
permanent_held r =
    rw append_assoc
    (ap (take 6) (drop_at (high_first 6 r.locks.protection) (high_first 6 r.locks.permanent ++ flags_number r.flags ∷ burst_byte r.burst ∷ []) 6 (length_high 6 r.locks.protection))
    ∙ take_at (high_first 6 r.locks.permanent) (flags_number r.flags ∷ burst_byte r.burst ∷ []) 6 (length_high 6 r.locks.permanent))

last_held : (r : Rest) → drop 12 (registers r) ≡ flags_number r.flags ∷ burst_byte r.burst ∷ []
unfolding registers
last_held r =
    drop_at (high_first 6 r.locks.protection ++ high_first 6 r.locks.permanent) (flags_number r.flags ∷ burst_byte r.burst ∷ []) 12
    (let p = length_high 6 r.locks.protection in let q = length_high 6 r.locks.permanent in rw (length-append, p, q))

flags_held : (r : Rest) → get_or (registers r) 12 0 ≡ flags_number r.flags
flags_held r = sym (get_or-drop 12 (registers r) 0 0) ∙ ap (λ l. get_or l 0 0) (last_held r)

burst_held : (r : Rest) → get_or (registers r) 13 0 ≡ burst_byte r.burst
burst_held r = sym (get_or-drop 12 (registers r) 1 0) ∙ ap (λ l. get_or l 1 0) (last_held r)

-- ---- an idle well-formed record: registers that are right, and a buffer all FF

all_ff : (n : ℕ) (b : List ℕ) → first_ff n b ≡ true → (i : ℕ) → i < n → get_or b i 0 ≡ 0xFF
unfolding first_ff
all_ff zero b e i h = absurd (omega arith)
all_ff (suc n) b e i h = go (λ k. all_ff n b both.1 i k) (ℕ_discrete i n)
  where
    both : (eqb (get_or b n 0) 0xFF ≡ true) × (first_ff n b ≡ true)
    both = and_split (eqb (get_or b n 0) 0xFF) (first_ff n b) e

    go : (i < n → get_or b i 0 ≡ 0xFF) → Dec (i ≡ n) → get_or b i 0 ≡ 0xFF
    go before (yes q) = rw q (eqb-true (get_or b n 0) 0xFF both.0)
    go before (no q) = before (omega arith)

is_blank : (b : List ℕ) → length b ≡ 256 → first_ff 256 b ≡ true → b ≡ blank
unfolding blank
is_blank b size e =
    ext_get_or 0 b (replicate 256 0xFF) size
    (λ i h. let k : i < 256 = omega arith in all_ff 256 b e i k ∙ sym (get_or-replicate 256 i 0xFF 0 k))

blank_clean : first_ff 256 blank ≡ true
unfolding blank first_ff
blank_clean = refl

length_blank : length blank ≡ 256
unfolding blank
length_blank = refl

pub idles_both : (r : Rest) → idle r ≡ true → (r.works.running ≡ Work.Nothing) × (r.works.suspended ≡ Work.Nothing)
unfolding idle
idles_both r e = let t = and_split (is_nothing r.works.running) (is_nothing r.works.suspended) e in (nothing _ t.0, nothing _ t.1)

clean_of : (c : Chip) → Well c → idle c.rest ≡ true → first_ff 256 c.buffer ≡ true
clean_of c h e = let t = idles_both c.rest e in rw (t.0, t.1) at h.works.clean

at_rest : (p q : ℕ) (f : Flags) (b : Burst) → Registers p q → Well (chip_of blank (rest_of (locks_of p q) (works_of Work.Nothing Work.Nothing) f b))
at_rest p q f b r =
    record {
      registers = r;
      works = record { running = refl; suspended = refl; kind = refl; beside = refl; running_open = unlocked_nowhere p; suspended_open = unlocked_nowhere p; security = refl; clean = blank_clean };
    }

-- ---- reading gives back the chip that was written

module _ (c : Chip) (array security : List ℕ) (w : Whole c array security) where
  well : Well c
  well = well_of c w.formed

  locks_back : locks_in (file_of c array security) ≡ c.rest.locks
  locks_back = λ i. locks_of (low i) (high i)
    where
      low : number (part (file_of c array security) 2 6) ≡ c.rest.locks.protection
      low =
          ap number (register_part c array security w 0 6 (omega arith) ∙ protection_held c.rest)
          ∙ number_high 6 c.rest.locks.protection well.registers.low

      high : number (part (file_of c array security) 8 6) ≡ c.rest.locks.permanent
      high =
          ap number (register_part c array security w 6 6 (omega arith) ∙ permanent_held c.rest)
          ∙ number_high 6 c.rest.locks.permanent well.registers.permanent_low

  flags_there : flags_byte_in (file_of c array security) ≡ flags_number c.rest.flags
  flags_there = register_byte c array security w 12 (omega arith) ∙ flags_held c.rest

  burst_there : burst_byte_in (file_of c array security) ≡ burst_byte c.rest.burst
  burst_there = register_byte c array security w 13 (omega arith) ∙ burst_held c.rest

  rest_back : rest_in (file_of c array security) ≡ c.rest
  unfolding rest_in
  rest_back =
      let t = idles_both c.rest w.idles in
      λ i. rest_of
      (locks_back i)
      (works_of (sym t.0 i) (sym t.1 i))
      ((ap flags_in flags_there ∙ (flags_back c.rest.flags).1) i)
      ((ap burst_of burst_there ∙ (burst_back c.rest.burst).1) i)

  chip_back : chip_in (file_of c array security) ≡ c
  unfolding chip_in
  chip_back = λ i. chip_of (sym (is_blank c.buffer w.buffer_size (clean_of c well w.idles)) i) (rest_back i)

  array_back : array_in (file_of c array security) ≡ array
  unfolding array_in
  array_back =
      joined_same (page_in (file_of c array security)) (page_of array) 8192 (content_there c array security w)
      ∙ joined_parts array 256 8192
      ∙ take_all 2097152 array (let s = w.array_size in omega arith)

  registers_pass : registers_right (file_of c array security) ≡ true
  unfolding registers_right
  registers_pass =
      let b : leb (burst_byte_in (file_of c array security)) last_burst ≡ true = rw burst_there (le-leb _ _ (burst_back c.rest.burst).0) in
      let l : locks_right (locks_in (file_of c array security)) ≡ true = rw locks_back (registers_right_lem _ _ well.registers) in
      and_both b l

  pages_pass : first_hold (page_right_lem (file_of c array security)) 8192 ≡ true
  unfolding page_right_lem
  pages_pass =
      first_intro (page_right_lem (file_of c array security)) 8192
      (λ n h. and_both (body_there c array security w n h).0 (eq-eqb _ _ (number_there c array security w n h)))

  right_back : right (file_of c array security) ≡ true
  unfolding right
  right_back =
      and_both
      (and_both
      (and_both (and_both (eq-eqb _ _ (length_file c array security w)) (registers_there c array security w).0) registers_pass)
      (security_there c array security w).0)
      pages_pass

pub reading_gives_back : ReadingGivesBack
reading_gives_back c array security w =
    record {
      size = length_file c array security w;
      is_right = right_back c array security w;
      same_chip = chip_back c array security w;
      same_array = array_back c array security w;
      same_security = (security_there c array security w).1;
    }

-- ---- writing what was read gives the same bytes

-- a right file, test by test
pub record Right (l : List ℕ) : Type 0 where
  pub size : length l ≡ 2148374
  pub front : record_right "RG" l 0 14 ≡ true
  pub burst : burst_byte_in l ≤ last_burst
  pub locks : locks_right (locks_in l) ≡ true
  pub middle : record_right "SI" l 18 2048 ≡ true
  pub page : (n : ℕ) → n < 8192 → record_right "PG" l (page_place n) 258 ≡ true
  pub number_is : (n : ℕ) → n < 8192 → number_in l n ≡ n

pub right_of : (l : List ℕ) → right l ≡ true → Right l
unfolding right registers_right page_right_lem
right_of l e =
    let h₄ = and_split _ (first_hold (page_right_lem l) 8192) e in
    let h₃ = and_split _ (record_right "SI" l 18 2048) h₄.0 in
    let h₂ = and_split _ (registers_right l) h₃.0 in
    let h₁ = and_split (eqb (length l) 2148374) (record_right "RG" l 0 14) h₂.0 in
    let g₂ = and_split (leb (burst_byte_in l) last_burst) (locks_right (locks_in l)) h₂.1 in
    let pages = first_at (page_right_lem l) 8192 h₄.1 in
    record {
      size = eqb-true _ _ h₁.0;
      front = h₁.1;
      burst = leb-true _ _ g₂.0;
      locks = g₂.1;
      middle = h₃.1;
      page = λ n h. (and_split (record_right "PG" l (page_place n) 258) (eqb (number_in l n) n) (pages n h)).0;
      number_is = λ n h. eqb-true _ _ (and_split (record_right "PG" l (page_place n) 258) (eqb (number_in l n) n) (pages n h)).1;
    }

module _ (l : List ℕ) (small : OfBytes l) (t : Right l) where
  length_contents : Each (page_in l) 8192 256
  length_contents n h = let s = t.size in length_part l (page_place n + 4) 256 (omega arith)

  length_array : length (array_in l) ≡ 2097152
  unfolding array_in
  length_array = length_joined (page_in l) 256 8192 length_contents

  page_back : (n : ℕ) → n < 8192 → page_of (array_in l) n ≡ page_in l n
  unfolding array_in
  page_back n h = part_joined (page_in l) 256 8192 length_contents n h

  length_security : length (security_in l) ≡ 2048
  length_security = let s = t.size in length_part l 20 2048 (omega arith)

  -- the registers' body again
  pair : get_or l 14 0 ∷ get_or l 15 0 ∷ [] ≡ part l 14 2
  pair = let s = t.size in sym (rw (drop-cons l 14 0 (omega arith), drop-cons l 15 0 (omega arith)))

  registers_again : registers (rest_in l) ≡ body_in l 0 14
  unfolding registers rest_in
  registers_again =
      let s = t.size in
      let p : high_first 6 (number (part l 2 6)) ≡ part l 2 6 = high_number 6 (part l 2 6) (length_part l 2 6 (omega arith)) (part_bytes l 2 6 small) in
      let q : high_first 6 (number (part l 8 6)) ≡ part l 8 6 = high_number 6 (part l 8 6) (length_part l 8 6 (omega arith)) (part_bytes l 8 6 small) in
      let f : flags_number (flags_in (get_or l 14 0)) ≡ get_or l 14 0 = flags_kept (get_or l 14 0) (small 14) in
      let b : burst_byte (burst_of (get_or l 15 0)) ≡ get_or l 15 0 = burst_kept (get_or l 15 0) t.burst in
      (λ i. p i ++ q i ++ f i ∷ b i ∷ []) ∙ (λ i. part l 2 6 ++ part l 8 6 ++ pair i) ∙ (λ i. sym (part_add l 2 6 6) i ++ part l 14 2) ∙ sym (part_add l 2 12 2)

  first_again : record_of "RG" (registers (rest_in l)) ≡ part l 0 18
  first_again = let s = t.size in ap (record_of "RG") registers_again ∙ sym (right_record "RG" l 0 14 rg small (omega arith) t.front)

  second_again : record_of "SI" (security_in l) ≡ part l 18 2052
  second_again = let s = t.size in sym (right_record "SI" l 18 2048 si small (omega arith) t.middle)

  page_again : (n : ℕ) → n < 8192 → page_record (array_in l) n ≡ part (drop 2070 l) (n * 262) 262
  page_again n h =
      let s = t.size in
      let e : page_place n + 2 + 2 ≡ page_place n + 4 = omega arith in
      let k : high_first 2 n ≡ part l (page_place n + 2) 2 =
      ap (high_first 2) (sym (t.number_is n h)) ∙ high_number 2 (part l (page_place n + 2) 2) (length_part l (page_place n + 2) 2 (omega arith)) (part_bytes l (page_place n + 2) 2 small) in
      let b : high_first 2 n ++ page_of (array_in l) n ≡ body_in l (page_place n) 258 =
      (λ i. k i ++ page_back n h i) ∙ sym ((rw e at (part_add l (page_place n + 2) 2 256))) in
      ap (record_of "PG") b
      ∙ sym (right_record "PG" l (page_place n) 258 pg small (omega arith) (t.page n h))
      ∙ ap (take 262) (sym (drop-drop (n * 262) 2070 l))

  back_again : joined (page_record (array_in l)) 8192 ≡ drop 2070 l
  back_again =
      let s = t.size in
      joined_same (page_record (array_in l)) (λ n. part (drop 2070 l) (n * 262) 262) 8192 page_again
      ∙ joined_parts (drop 2070 l) 262 8192
      ∙ take_all 2146304 (drop 2070 l) (rw length-drop (omega arith))

  file_again : file_of (chip_in l) (array_in l) (security_in l) ≡ l
  unfolding file_of chip_in
  file_again =
      (λ i. first_again i ++ second_again i ++ back_again i)
      ∙ (λ i. sym (part_add l 0 18 2052) i ++ drop 2070 l)
      ∙ take-append-drop 2070 l

  whole_again : Whole (chip_in l) (array_in l) (security_in l)
  unfolding chip_in rest_in idle
  whole_again =
      record {
        buffer_size = length_blank;
        formed = well_right _ (at_rest _ _ _ _ (registers_of_lem _ _ t.locks));
        idles = refl;
        array_size = length_array;
        security_size = length_security;
      }

pub writing_gives_the_same : WritingGivesTheSame
writing_gives_the_same l small e = record { whole = whole_again l small (right_of l e); same_file = file_again l small (right_of l e) }

-- ---- a right file is the file of exactly one chip

pub exactly_one_chip : ExactlyOneChip
exactly_one_chip l small e =
    record {
      one = writing_gives_the_same l small e;
      no_other = λ c array security w same.
          let b = reading_gives_back c array security w in
          (sym b.same_chip ∙ ap chip_in same, (sym b.same_array ∙ ap array_in same, sym b.same_security ∙ ap security_in same));
    }
