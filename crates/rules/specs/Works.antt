-- What runs or is suspended: its kind, its range, and what it leaves where it ends or is stopped (01, Long and short; Suspension; Power cut; 02, W-205).
use Rattle.std.specs.Prelude.{ℕ, ◌-◌, ◌*◌, Bool, true, false, List, eqb, ltb, get_or}
use Rattle.std.specs.Int.Bits.{bit_and, bit_or}
use Rattle.rules.specs.declared.Range.{Range}
use Rattle.rules.specs.declared.Tear.{Tear}
use Rattle.rules.specs.declared.Work.{Work}
use Rattle.rules.specs.declared.Work.TheVariants.{Nothing, EraseSector, EraseBlock, EraseArray, ProgramPage, ProgramSecurity, LockSecurity, WriteConfiguration, AddPermanent}
use Rattle.rules.specs.Words.{pick, range, nowhere, holds, Lent}
use Rattle.rules.specs.Blocks.{array_size_lem, block_at, span}

-- what each is: a row of the table below
pub record About : Type 0 where
  pub none : Bool
  pub erases : Bool
  pub programs : Bool
  -- it may be suspended: one sector or block erase or one page program
  pub waits : Bool
  -- its range in the array, and in the Security ID
  pub array : Range
  pub security : Range

abbrev pub row : Bool → Bool → Bool → Bool → Range → Range → About
row n e p w a s = record { none = n; erases = e; programs = p; waits = w; array = a; security = s }

-- none, erases, programs, may be suspended, array range, Security ID range
abbrev pub about : Work → About
about Nothing = row true false false false nowhere nowhere
about (EraseSector n) = row false true false true (range (n * 4096) 4096) nowhere
about (EraseBlock n) = row false true false true (span (block_at n)) nowhere
about EraseArray = row false true false false (range 0 array_size_lem) nowhere
about (ProgramPage n) = row false false true true (range (n * 256) 256) nowhere
about (ProgramSecurity n) = row false false true false nowhere (range (n * 256) 256)
about LockSecurity = row false false false false nowhere nowhere
about (WriteConfiguration i w) = row false false false false nowhere nowhere
about (AddPermanent v) = row false false false false nowhere nowhere

abbrev pub is_nothing : Work → Bool
is_nothing w = (about w).none

abbrev pub is_erase : Work → Bool
is_erase w = (about w).erases

abbrev pub is_program : Work → Bool
is_program w = (about w).programs

abbrev pub can_suspend : Work → Bool
can_suspend w = (about w).waits

abbrev pub array_range : Work → Range
array_range w = (about w).array

abbrev pub security_range : Work → Range
security_range w = (about w).security

-- ---- work that ends or is stopped: byte i of its range, of old value x

-- finished: erase sets FF, a program leaves the old value AND the buffer byte
abbrev pub finished : Work → List ℕ → ℕ → ℕ → ℕ
finished w buffer i x = pick (is_erase w) 0xFF (bit_and x (get_or buffer i 0))

-- torn by m: for a program, old AND (finished OR m), and for an erase, old OR m
abbrev pub torn : Work → List ℕ → ℕ → ℕ → ℕ → ℕ
torn w buffer m i x = pick (is_erase w) (bit_or x m) (bit_and x (bit_or (finished w buffer i x) m))

-- the first k bytes are finished; byte k is torn; the rest is unchanged
abbrev pub stopped : Work → List ℕ → Tear → ℕ → ℕ → ℕ
stopped w buffer t i x = pick (ltb i t.k) (finished w buffer i x) (pick (eqb i t.k) (torn w buffer t.m i x) x)

abbrev pub tear_of : ℕ → ℕ → Tear
tear_of k m = record { k = k; m = m }

-- the case "all", a completion's: no range is larger than the array, so that none has a byte k to be torn
abbrev pub all : Tear
all = tear_of array_size_lem 0

-- memory in which the work's range r, in rising address order, is finished as far as t says
unfoldable pub finish : Work → Range → List ℕ → Tear → Lent → Lent
finish w r buffer t m = record { size = m.size; byte = λ a. pick (holds r a) (stopped w buffer t (a - r.start) (m.byte a)) (m.byte a) }
