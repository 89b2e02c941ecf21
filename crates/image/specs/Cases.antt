-- Worked cases of W-203, each an equation between what the definitions give and what the paper's words give, under one statement. Proved in proofs/Cases.
-- The arrays here hold as many pages as a case needs: a record looks at no other.
use Rattle.std.specs.Prelude.{ℕ, ◌≡◌, Bool, true, false, List, [], ◌∷◌, ◌++◌, take, drop, replicate, Option, None, Some, Ok, Err}
use Prim.Native.String.{String}
use Rattle.rules.specs.declared.Burst.{Burst}
use Rattle.rules.specs.declared.Work.TheVariants.{Nothing}
use Rattle.rules.specs.Words.{Each, pick}
use Rattle.rules.specs.Texts.{ascii}
use Rattle.rules.specs.Fields.{locks_of, works_of, flags_of, rest_of}
use Rattle.rules.specs.Commands.{new_chip, new_old_chip}
use Rattle.image.specs.declared.Fault.{Fault}
use Rattle.image.specs.declared.FileRefusal.{FileRefusal}
use Rattle.image.specs.Form.{high_first, number, sum, record_of, registers}
use Rattle.image.specs.Files.{page_place, record_right, registers_right, rest_in, page_right_lem}
use Rattle.image.specs.Promises.{posted_number}
use Rattle.image.specs.Faults.{record_fault, registers_fault, page_fault, first_fault}

-- a sentence, what the definitions give, and what they must give
pub record Case : Type 0 where
  pub sentence : String
  pub gives : List ℕ
  pub must : List ℕ

abbrev pub case : String → List ℕ → List ℕ → Case
case s g m = record { sentence = s; gives = g; must = m }

-- ---- what the cases look at

-- the sum of a body as it stands in its record
abbrev pub sum_bytes : List ℕ → List ℕ
sum_bytes body = high_first 2 (sum body)

-- a blank page's body
abbrev pub blank_body : ℕ → List ℕ
blank_body n = high_first 2 n ++ replicate 256 0xFF

-- flags and burst code of a record with these flags and this burst
abbrev pub last_two : Bool → Bool → Bool → Bool → Bool → Bool → Bool → Bool → Burst → List ℕ
last_two sqi wel ioc wpen wpld sec enable ba b =
    drop 12 (registers (rest_of (locks_of 0 0) (works_of Nothing Nothing) (flags_of sqi wel ioc wpen wpld sec enable ba) b))

-- 1 where a test holds, 0 where it does not
abbrev pub held : Bool → List ℕ
held b = pick b (1 ∷ []) (0 ∷ [])

-- whether an RG with this protection, permanent, flags and burst code is right, its sum being right
abbrev pub right_with : ℕ → ℕ → ℕ → ℕ → List ℕ
right_with p q f b = held (registers_right (record_of "RG" (high_first 6 p ++ high_first 6 q ++ f ∷ b ∷ [])))

-- 1 where the chip of an RG with these flags is a BA
abbrev pub part_in_lem : ℕ → List ℕ
part_in_lem f = held (rest_in (record_of "RG" (high_first 6 0 ++ high_first 6 0 ++ f ∷ 0 ∷ []))).flags.ba

-- whether a file's first page record is right, with this body in it
abbrev pub first_page : List ℕ → List ℕ
first_page body = held (page_right_lem (replicate (page_place 0) 0 ++ record_of "PG" body) 0)

-- the record, what stands there and what belongs there, of a fault
abbrev pub told : Option Fault → List ℕ
told None = []
told (Some f) = f.at ∷ f.found ∷ f.due ∷ []

-- of a file's second page record, with these bytes for it
abbrev pub second_page : List ℕ → List ℕ
second_page l = told (page_fault (replicate (page_place 1) 0 ++ l) 1)

-- ---- the cases

unfoldable pub cases : List Case
cases =
    case "a two-byte ASCII mark, a fixed body and the sum of the body's bytes: the mark does not count" (record_of "PG" (0x01 ∷ 0x02 ∷ [])) (0x50 ∷ 0x47 ∷ 0x01 ∷ 0x02 ∷ 0x00 ∷ 0x03 ∷ [])
    ∷ case "marks: RG" (take 2 (record_of "RG" [])) (0x52 ∷ 0x47 ∷ [])
    ∷ case "marks: SI" (take 2 (record_of "SI" [])) (0x53 ∷ 0x49 ∷ [])
    ∷ case "high byte first" (sum_bytes (replicate 3 0xFF)) (0x02 ∷ 0xFD ∷ [])
    ∷ case "257 bytes FF come to 65,535" (sum_bytes (replicate 257 0xFF)) (0xFF ∷ 0xFF ∷ [])
    ∷ case "and it wraps at 65,536: 258 of them" (sum_bytes (replicate 258 0xFF)) (0x00 ∷ 0xFE ∷ [])
    ∷ case "blank page 0000" (sum_bytes (blank_body 0x0000)) (0xFF ∷ 0x00 ∷ [])
    ∷ case "blank page 01FF sums to 0000" (sum_bytes (blank_body 0x01FF)) (0x00 ∷ 0x00 ∷ [])
    ∷ case "blank page 1FFF sums to 001E" (sum_bytes (blank_body 0x1FFF)) (0x00 ∷ 0x1E ∷ [])
    ∷ case "RG of a new chip, a BA: protection 6, permanent 6, flags 1, burst code 1" (record_of "RG" (registers new_chip.rest))
    (0x52 ∷ 0x47 ∷ 0x55 ∷ 0x55 ∷ 0xFF ∷ 0xFF ∷ 0xFF ∷ 0xFF ∷ 0x00 ∷ 0x00 ∷ 0x00 ∷ 0x00 ∷ 0x00 ∷ 0x00 ∷ 0x84 ∷ 0x00 ∷ 0x05 ∷ 0x2A ∷ [])
    ∷ case "and of the old part" (record_of "RG" (registers new_old_chip.rest))
    (0x52 ∷ 0x47 ∷ 0x55 ∷ 0x55 ∷ 0xFF ∷ 0xFF ∷ 0xFF ∷ 0xFF ∷ 0x00 ∷ 0x00 ∷ 0x00 ∷ 0x00 ∷ 0x00 ∷ 0x00 ∷ 0x00 ∷ 0x00 ∷ 0x04 ∷ 0xA6 ∷ [])
    ∷ case "flags from bit 0: SQI" (last_two true false false false false false false false Burst.Eight) (0x01 ∷ 0x00 ∷ [])
    ∷ case "WEL" (last_two false true false false false false false false Burst.Eight) (0x02 ∷ 0x00 ∷ [])
    ∷ case "IOC" (last_two false false true false false false false false Burst.Sixteen) (0x04 ∷ 0x01 ∷ [])
    ∷ case "WPEN" (last_two false false false true false false false false Burst.ThirtyTwo) (0x08 ∷ 0x02 ∷ [])
    ∷ case "WPLD" (last_two false false false false true false false false Burst.SixtyFour) (0x10 ∷ 0x03 ∷ [])
    ∷ case "SEC" (last_two false false false false false true false false Burst.Eight) (0x20 ∷ 0x00 ∷ [])
    ∷ case "reset enable" (last_two false false false false false false true false Burst.Eight) (0x40 ∷ 0x00 ∷ [])
    ∷ case "bit 7 .. 1 for BA" (last_two false false false false false false false true Burst.Eight) (0x80 ∷ 0x00 ∷ [])
    ∷ case "so old files stay old parts" (part_in_lem 0x7F) (0 ∷ [])
    ∷ case "1 for BA" (part_in_lem 0x80) (1 ∷ [])
    ∷ case "2,148,374 bytes: 8,192 pages behind RG and SI" (page_place 8_192 ∷ []) (2_148_374 ∷ [])
    ∷ case "a right record" (held (record_right "RG" (0x52 ∷ 0x47 ∷ 0x01 ∷ 0x02 ∷ 0x00 ∷ 0x03 ∷ []) 0 2)) (1 ∷ [])
    ∷ case "a wrong mark" (held (record_right "RG" (0x52 ∷ 0x48 ∷ 0x01 ∷ 0x02 ∷ 0x00 ∷ 0x03 ∷ []) 0 2)) (0 ∷ [])
    ∷ case "a wrong sum: low byte first" (held (record_right "RG" (0x52 ∷ 0x47 ∷ 0x01 ∷ 0x02 ∷ 0x03 ∷ 0x00 ∷ []) 0 2)) (0 ∷ [])
    ∷ case "a wrong sum: it counts the mark" (held (record_right "RG" (0x52 ∷ 0x47 ∷ 0x01 ∷ 0x02 ∷ 0x00 ∷ 0x9C ∷ []) 0 2)) (0 ∷ [])
    ∷ case "a page number: from 0 up" (first_page (blank_body 0)) (1 ∷ [])
    ∷ case "a wrong page number: from 1" (first_page (blank_body 1)) (0 ∷ [])
    ∷ case "flags 7F" (right_with 0 0 0x7F 0) (1 ∷ [])
    ∷ case "flags FF" (right_with 0 0 0xFF 0) (1 ∷ [])
    ∷ case "burst code 03" (right_with 0 0 0 0x03) (1 ∷ [])
    ∷ case "a wrong code: 04" (right_with 0 0 0 0x04) (0 ∷ [])
    ∷ case "a permanent bit set in the protection register" (right_with 0x5555_FFFF_FFFF 1 0 0) (1 ∷ [])
    ∷ case "a permanent bit that is not" (right_with 0x5555_FFFF_FFFE 1 0 0) (0 ∷ [])
    ∷ case "a permanent read lock" (right_with 0xFFFF_FFFF_FFFF 0x0002_0000_0000 0 0) (0 ∷ [])
    ∷ case "done, and the refusals: 1, 14, 15" (posted_number (Ok tt) ∷ posted_number (Err FileRefusal.Malformed) ∷ posted_number (Err FileRefusal.AtWork) ∷ posted_number (Err FileRefusal.WrongFile) ∷ []) (0 ∷ 1 ∷ 14 ∷ 15 ∷ [])
    ∷ case "what is wrong first: another length" (told (first_fault [])) (0 ∷ 0 ∷ 2_148_374 ∷ [])
    ∷ case "in which record, and what the mark is" (told (record_fault (number (ascii "RG")) (0x52 ∷ 0x48 ∷ 0x01 ∷ 0x02 ∷ 0x00 ∷ 0x04 ∷ []) 5 0 2)) (5 ∷ 0x5248 ∷ 0x5247 ∷ [])
    ∷ case "the sum, and the body's" (told (record_fault (number (ascii "RG")) (0x52 ∷ 0x47 ∷ 0x01 ∷ 0x02 ∷ 0x00 ∷ 0x04 ∷ []) 5 0 2)) (5 ∷ 0x0004 ∷ 0x0003 ∷ [])
    ∷ case "nothing" (told (record_fault (number (ascii "RG")) (0x52 ∷ 0x47 ∷ 0x01 ∷ 0x02 ∷ 0x00 ∷ 0x03 ∷ []) 5 0 2)) []
    ∷ case "record PG 1: the page number" (second_page (record_of "PG" (blank_body 7))) (3 ∷ 7 ∷ 1 ∷ [])
    ∷ case "record PG 1: the mark" (second_page (record_of "PQ" (blank_body 1))) (3 ∷ 0x5051 ∷ 0x5047 ∷ [])
    ∷ case "the burst code, and the last one" (told (registers_fault 0x09 (locks_of 0 0))) (0 ∷ 0x09 ∷ 0x03 ∷ [])
    ∷ case "the permanent register" (told (registers_fault 0 (locks_of 0xFFFF_FFFF_FFFF 0x0002_0000_0000))) (0 ∷ 0x0002_0000_0000 ∷ 0 ∷ [])
    ∷ case "the permanent register, and the protection register" (told (registers_fault 0 (locks_of 2 1))) (0 ∷ 1 ∷ 2 ∷ [])
    ∷ []

abbrev pub CasesHold : Type 0
CasesHold = Each (λ c. c.gives ≡ c.must) cases
