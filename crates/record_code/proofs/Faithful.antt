-- The code is faithful: a record read back from its code is the record, and bytes that are a code are the code of what is read from them.
-- Both go by what the fields hold. Typed, and that a byte is below 256, are what the Rattle types say, so they hold of every value. Assumes nothing.
use Prim.Native.Nat.{ℕ, ◌+◌, ◌-◌, ◌^◌, ◌≤◌, ◌<◌}
use Prim.Native.String.{String}
use mathlib.Core.Path.{◌≡◌, refl, sym, ap, ◌∙◌}
use mathlib.Core.Bool.{Bool, true, not, ◌&&◌, ◌||◌}
use mathlib.Core.List.{List, ◌++◌}
use native.Mathlib.Omega.{arith}
use lib.Dec.{eqb, ltb, leb, lit<}
use lib.ListN.{length, get_or, take, drop, take-append-drop, length-append, length-drop}
use lib.Seq.{take_all, take_at, drop-append-add, drop-drop}
use borrow.Author.Tests.{eq-eqb, le-leb, le-ltb, eqb-true, leb-true, not-true}
use Rattle.rules.specs.declared.Chip.{Chip}
use Rattle.rules.specs.declared.Rest.{Rest}
use Rattle.rules.specs.Bursts.{burst_byte, last_burst, burst_of}
use Rattle.rules.specs.Fields.{locks_of, works_of, rest_of, chip_of, flags_number, flags_in}
use Rattle.rules.specs.Words.{bit}
use Rattle.rules.proofs.Bools.{and_split, upto, upto_at}
use Rattle.rules.proofs.Fields.{flags_back, flags_kept, burst_back, burst_kept}
use Rattle.numbering.specs.Numbering.{kind_of, number_of, work_right, work_of}
use Rattle.numbering.proofs.Works.{work_back, work_small, work_kept}
use Rattle.record_code.specs.Layout.{place_of, size_of, record_size, bytes, number_at, field_in, rest_code, code, rest_in, is_code, NothingReserved, chip_in, decode, TypedRest, Typed, PartIn, NewCodes}
use Rattle.record_code.proofs.Laws.{number_past, number_bytes, bytes_number, bytes_none, parts}

-- the page and what stands behind it
pub code_of : (b : List ℕ) (r : Rest) → code (chip_of b r) ≡ b ++ rest_code r
unfolding code
code_of b r = refl

pub chip_in_lem : (l : List ℕ) → chip_in l ≡ chip_of (take 256 l) (rest_in l)
unfolding chip_in
chip_in_lem l = refl

-- the fields hold the record's numbers
record Holds (l : List ℕ) (r : Rest) : Type 0 where
  protection : field_in l "protection" ≡ r.locks.protection
  permanent : field_in l "permanent" ≡ r.locks.permanent
  running_number : field_in l "running number" ≡ number_of r.works.running
  suspended_number : field_in l "suspended number" ≡ number_of r.works.suspended
  running_kind : field_in l "running kind" ≡ kind_of r.works.running
  suspended_kind : field_in l "suspended kind" ≡ kind_of r.works.suspended
  flags : field_in l "flags" ≡ flags_number r.flags
  burst : field_in l "burst" ≡ burst_byte r.burst
  reserved : field_in l "reserved" ≡ 0

-- ---- from what the fields hold

module _ (l : List ℕ) (r : Rest) (h : Holds l r) where
  holds_rest : rest_in l ≡ r
  unfolding rest_in
  holds_rest =
      λ i. rest_of
      (locks_of (h.protection i) (h.permanent i))
      (works_of
      (((λ j. work_of (h.running_kind j) (h.running_number j)) ∙ (work_back r.works.running).1) i)
      (((λ j. work_of (h.suspended_kind j) (h.suspended_number j)) ∙ (work_back r.works.suspended).1) i))
      ((ap flags_in h.flags ∙ (flags_back r.flags).1) i)
      ((ap burst_of h.burst ∙ (burst_back r.burst).1) i)

  holds_code : length l ≡ 320 → is_code l ≡ true
  unfolding is_code
  holds_code size =
      rw (
        eq-eqb (length l) 320 size,
        h.running_kind,
        h.running_number,
        (work_back r.works.running).0,
        h.suspended_kind,
        h.suspended_number,
        (work_back r.works.suspended).0,
        le-leb (field_in l "burst") last_burst (rw h.burst (burst_back r.burst).0),
        eq-eqb (field_in l "reserved") 0 h.reserved,
      )

  module _ (small : (i : ℕ) → get_or l i 0 < 256) (size : length l ≡ 320) where
    -- the bytes of a number that a field holds are the field's
    field_kept : (f : String) {x : ℕ} → place_of f + size_of f ≤ 320 → field_in l f ≡ x → bytes (size_of f) x ≡ take (size_of f) (drop (place_of f) l)
    field_kept f fits e = ap (bytes (size_of f)) (sym e) ∙ bytes_number l small (place_of f) (size_of f) (omega arith)

    holds_bytes : rest_code r ≡ drop 256 l
    unfolding rest_code
    holds_bytes =
        let s = length-drop 256 l in
        (λ i. field_kept "protection" (omega arith) h.protection i
        ++ field_kept "permanent" (omega arith) h.permanent i
        ++ field_kept "running number" (omega arith) h.running_number i
        ++ field_kept "suspended number" (omega arith) h.suspended_number i
        ++ field_kept "running kind" (omega arith) h.running_kind i
        ++ field_kept "suspended kind" (omega arith) h.suspended_kind i
        ++ field_kept "flags" (omega arith) h.flags i
        ++ field_kept "burst" (omega arith) h.burst i
        ++ field_kept "reserved" (omega arith) h.reserved i)
        ∙ rw (
          parts l 256 8 8,
          parts l 256 16 8,
          parts l 256 24 8,
          parts l 256 32 1,
          parts l 256 33 1,
          parts l 256 34 1,
          parts l 256 35 1,
          parts l 256 36 28,
        ) (take_all 64 (drop 256 l) (omega arith))

-- ---- a record's code

module _ (b : List ℕ) (r : Rest) (size : length b ≡ 256) (t : TypedRest r) where
  -- a field's place behind the page
  abbrev behind : String → ℕ
  behind f = place_of f - place_of "protection"

  holds_number : (f : String) (x : ℕ) → number_at (rest_code r) (behind f) (size_of f) ≡ number_at (bytes (size_of f) x) 0 (size_of f) → x < 256 ^ size_of f
      → number_at (b ++ rest_code r) (256 + behind f) (size_of f) ≡ x
  holds_number f x e small = number_past b (rest_code r) 256 (behind f) (size_of f) size ∙ e ∙ number_bytes (size_of f) x small

  code_holds : Holds (b ++ rest_code r) r
  unfolding rest_code bytes
  code_holds =
      let k₁ = work_small r.works.running in
      let k₂ = work_small r.works.suspended in
      let k₃ = (flags_back r.flags).0 in
      let k₄ = (burst_back r.burst).0 in
      record {
        protection = holds_number "protection" r.locks.protection refl t.protection;
        permanent = holds_number "permanent" r.locks.permanent refl t.permanent;
        running_number = holds_number "running number" (number_of r.works.running) refl t.running;
        suspended_number = holds_number "suspended number" (number_of r.works.suspended) refl t.suspended;
        running_kind = holds_number "running kind" (kind_of r.works.running) refl (omega arith);
        suspended_kind = holds_number "suspended kind" (kind_of r.works.suspended) refl (omega arith);
        flags = holds_number "flags" (flags_number r.flags) refl (omega arith);
        burst = holds_number "burst" (burst_byte r.burst) refl (omega arith);
        reserved = holds_number "reserved" 0 refl (lit< tt);
      }

  pub rest_back : rest_in (b ++ rest_code r) ≡ r
  rest_back = holds_rest (b ++ rest_code r) r code_holds

module _ (c : Chip) (t : Typed c) where
  pub code_length : length (code c) ≡ record_size
  unfolding code rest_code bytes
  code_length = let s = length-append c.buffer (rest_code c.rest) in let b = t.buffer in omega arith

  -- a record's code is a code
  pub code_known : is_code (code c) ≡ true
  unfolding code
  code_known = holds_code (code c) c.rest (code_holds c.buffer c.rest t.buffer t.rest) code_length

  -- and read back it is the record
  pub code_back : chip_in (code c) ≡ c
  unfolding chip_in code
  code_back = λ i. chip_of (take_at c.buffer (rest_code c.rest) 256 t.buffer i) (rest_back c.buffer c.rest t.buffer t.rest i)

  pub decode_code : decode (code c) ≡ record { known = true; chip = c }
  decode_code = λ i. record { known = code_known i; chip = code_back i }

-- no two records have one code
pub code_one : (c d : Chip) → Typed c → Typed d → code c ≡ code d → c ≡ d
code_one c d t u e = sym (code_back c t) ∙ ap chip_in e ∙ code_back d u

-- ---- bytes that are a code

pub known_length : (l : List ℕ) → is_code l ≡ true → length l ≡ record_size
unfolding is_code
known_length l e = eqb-true (length l) record_size (and_split (eqb (length l) record_size) _ e).0

known_none : (l : List ℕ) → is_code l ≡ true → field_in l "reserved" ≡ 0
unfolding is_code
known_none l e =
    let w = work_right (field_in l "running kind") (field_in l "running number") && work_right (field_in l "suspended kind") (field_in l "suspended number") in
    let z = and_split (w && leb (field_in l "burst") last_burst) (eqb (field_in l "reserved") 0) (and_split (eqb (length l) record_size) _ e).1 in
    eqb-true (field_in l "reserved") 0 z.1

known_holds : (l : List ℕ) → ((i : ℕ) → get_or l i 0 < 256) → is_code l ≡ true → Holds l (rest_in l)
unfolding is_code rest_in
known_holds l small e =
    let z = and_split _ (eqb (field_in l "reserved") 0) (and_split (eqb (length l) record_size) _ e).1 in
    let b = and_split _ (leb (field_in l "burst") last_burst) z.0 in
    let f = small (place_of "flags") in
    let w = and_split (work_right (field_in l "running kind") (field_in l "running number")) _ b.0 in
    let w₁ = work_kept (field_in l "running number") (field_in l "running kind") w.0 in
    let w₂ = work_kept (field_in l "suspended number") (field_in l "suspended kind") w.1 in
    record {
      protection = refl;
      permanent = refl;
      running_number = sym w₁.1;
      suspended_number = sym w₂.1;
      running_kind = sym w₁.0;
      suspended_kind = sym w₂.0;
      flags = sym (flags_kept (field_in l "flags") (omega arith));
      burst = sym (burst_kept (field_in l "burst") (leb-true (field_in l "burst") last_burst b.1));
      reserved = known_none l e;
    }

pub known_reserved : (l : List ℕ) → is_code l ≡ true → NothingReserved l
known_reserved l e = bytes_none l (place_of "reserved") (size_of "reserved") (known_length l e) (known_none l e)

-- a page changed in place leaves them
pub reserved_kept : (p l : List ℕ) → length p ≡ size_of "page" → NothingReserved l → NothingReserved (p ++ drop (size_of "page") l)
reserved_kept p l size h =
    let behind = place_of "reserved" - size_of "page" in
    let at : length p + behind ≡ place_of "reserved" = omega arith in
    (rw at at (drop-append-add p (drop (size_of "page") l) behind)) ∙ drop-drop behind (size_of "page") l ∙ h

-- the code of what is read from a code is the code
pub code_decode : (l : List ℕ) → ((i : ℕ) → get_or l i 0 < 256) → is_code l ≡ true → code (chip_in l) ≡ l
unfolding code chip_in
code_decode l small e =
    ap (λ (xs : List ℕ). take 256 l ++ xs) (holds_bytes l (rest_in l) (known_holds l small e) small (known_length l e)) ∙ take-append-drop 256 l

-- ---- the part

low : upto 128 (λ x. not (bit 7 x)) ≡ true
unfolding bit
low = refl

high : upto 256 (λ x. ltb x 128 || bit 7 x) ≡ true
unfolding bit
high = refl

pub part_in : (l : List ℕ) → PartIn l
unfolding rest_in
part_in l =
    record {
      old_part_lem = λ h. not-true _ (upto_at 128 (λ x. not (bit 7 x)) low (field_in l "flags") h);
      ba_part_lem = λ h k.
          let e = le-ltb (field_in l "flags") 128 h in
          ap (λ (b : Bool). b || bit 7 (field_in l "flags")) (sym e) ∙ upto_at 256 (λ x. ltb x 128 || bit 7 x) high (field_in l "flags") k;
    }

pub new_codes : NewCodes
unfolding bytes rest_code
new_codes = record { old_chip = refl; ba_chip = refl }
