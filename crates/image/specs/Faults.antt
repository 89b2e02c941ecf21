-- What is wrong with a file first, for whoever reads a refusal: record by record, the mark, then the sum, then what the record holds. Nothing is, exactly of a
-- right file: proved in proofs/Faults.
use Rattle.std.specs.Prelude.{ℕ, zero, suc, ◌+◌, ◌≡◌, Bool, true, false, List, eqb, leb, length, Option, None, Some, is_none, IsSomeAnd}
use Rattle.std.specs.Int.Bits.{bit_and}
use Rattle.std.specs.Option.{option_or}
use Rattle.rules.specs.declared.Locks.{Locks}
use Rattle.rules.specs.Words.{pick}
use Rattle.rules.specs.Texts.{ascii}
use Rattle.rules.specs.Blocks.{read_locks}
use Rattle.rules.specs.Bursts.{last_burst}
use Rattle.image.specs.declared.Fault.{Fault}
use Rattle.image.specs.declared.What.{What}
use Rattle.image.specs.Form.{number, sum, file_size_lem}
use Rattle.image.specs.Files.{security_place, page_place, mark_in, sum_in, body_in, locks_in, burst_byte_in, number_in, record_right, right}
use Rattle.image.specs.Laws.{OfBytes}

-- what is wrong, in which record, what stands there and what belongs there
abbrev pub fault_of : What → ℕ → ℕ → ℕ → Fault
fault_of w k found due = record { what = w; at = k; found = found; due = due }

-- none where the test holds
abbrev pub unless : Bool → Fault → Option Fault
unless t f = pick t None (Some f)

-- of the record k, at a place, whose mark is to be the number m
unfoldable pub record_fault : ℕ → List ℕ → ℕ → ℕ → ℕ → Option Fault
record_fault m l k at n =
    option_or
    (unless (eqb (mark_in l at) m) (fault_of What.Mark k (mark_in l at) m))
    (unless (eqb (sum_in l at n) (sum (body_in l at n))) (fault_of What.Sum k (sum_in l at n) (sum (body_in l at n))))

-- of what RG holds: burst code, registers
unfoldable pub registers_fault : ℕ → Locks → Option Fault
registers_fault b l =
    option_or (unless (leb b last_burst) (fault_of What.BurstCode 0 b last_burst))
    (option_or (unless (eqb (bit_and l.permanent read_locks) 0) (fault_of What.ReadLock 0 l.permanent 0))
    (unless (eqb (bit_and l.permanent l.protection) l.permanent) (fault_of What.Unprotected 0 l.permanent l.protection)))

unfoldable pub page_fault : List ℕ → ℕ → Option Fault
page_fault l n = option_or (record_fault (number (ascii "PG")) l (2 + n) (page_place n) 258) (unless (eqb (number_in l n) n) (fault_of What.PageNumber (2 + n) (number_in l n) n))

-- the first of k in a row, from n on
unfoldable pub first_from : (ℕ → Option Fault) → ℕ → ℕ → Option Fault
first_from f n zero = None
first_from f n (suc k) = option_or (f n) (first_from f (n + 1) k)

unfoldable pub first_fault : List ℕ → Option Fault
first_fault l =
    option_or (unless (eqb (length l) file_size_lem) (fault_of What.Length 0 (length l) file_size_lem))
    (option_or (record_fault (number (ascii "RG")) l 0 0 14)
    (option_or (registers_fault (burst_byte_in l) (locks_in l))
    (option_or (record_fault (number (ascii "SI")) l 1 security_place 2_048)
    (first_from (page_fault l) 0 8_192))))

-- nothing is wrong exactly of a right file
abbrev pub FaultsTell : Type 0
FaultsTell = (l : List ℕ) → OfBytes l → is_none (first_fault l) ≡ right l

-- a wrong RG is record 0, a wrong SI behind a right one record 1
pub record RecordsTold (l : List ℕ) : Type 0 where
  pub rg : length l ≡ file_size_lem → record_right "RG" l 0 14 ≡ false → IsSomeAnd (first_fault l) (λ f. f.at ≡ 0)
  pub si : length l ≡ file_size_lem → record_right "RG" l 0 14 ≡ true → is_none (registers_fault (burst_byte_in l) (locks_in l)) ≡ true
      → record_right "SI" l security_place 2_048 ≡ false → IsSomeAnd (first_fault l) (λ f. f.at ≡ 1)
