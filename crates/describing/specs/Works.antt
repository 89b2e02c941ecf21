-- What runs or is suspended, behind a row.
use Rattle.std.specs.Prelude.{ℕ, ◌+◌, ◌-◌, ◌*◌, ◌%◌, min, eqb}
use Rattle.rules.specs.declared.Work.{Work}
use Rattle.rules.specs.declared.Work.TheVariants.{Nothing, EraseSector, EraseBlock, EraseArray, ProgramPage, ProgramSecurity, LockSecurity, WriteConfiguration, AddPermanent}
use Rattle.rules.specs.Words.{num, pick}
use Rattle.rules.specs.Blocks.{array_size_lem, block_at}
use Rattle.writing.specs.declared.Row.{Row}
use Rattle.describing.specs.declared.Span.{Span}
use Rattle.page.specs.Page.{form}

pub record Told : Type 0 where
  pub kind : ℕ
  pub a : ℕ
  pub b : ℕ
  pub start : ℕ
  pub size : ℕ
  pub security : ℕ

-- how work is told: its form, 40 and so many; the two numbers in it; its first place and how many (none where that is 0), in the Security ID where
-- the last is 1
abbrev pub row : ℕ → ℕ → ℕ → ℕ → ℕ → ℕ → Told
row k a b start size s = record { kind = k; a = a; b = b; start = start; size = size; security = s }

-- a well-formed record has its numbers in range: of another, the number modulo the sectors, blocks or pages
abbrev pub told : Work → Told
told Nothing = row 0 0 0 0 0 0
told (EraseSector n) = row 1 (n % 512) 0 (n % 512 * 4096) 4096 0
told (EraseBlock n) = row 2 (block_at (n % 40)).write 0 (block_at (n % 40)).start (block_at (n % 40)).size 0
told EraseArray = row 3 0 0 0 array_size_lem 0
told (ProgramPage n) = row 4 (n % 8192) 0 (n % 8192 * 256) 256 0
told (ProgramSecurity n) = row 5 (n % 8) 0 (n % 8 * 256) 256 1
told LockSecurity = row 6 0 0 0 0 0
told (WriteConfiguration ioc wpen) = row 7 (num ioc) (num wpen) 0 0 0
told (AddPermanent bits) = row 8 bits 0 0 0 0

-- the places of it
abbrev pub span_of : Told → Span
span_of t = record { start = t.start; size = t.size; security = eqb t.security 1 }

unfoldable pub work : Told → Row → Row
work t r = form (40 + t.kind) t.a t.b 0 r

-- its first and its last place
unfoldable pub places : Told → Row → Row
places t r = pick (eqb t.size 0) r (form (49 + t.security) t.start (t.start + t.size - 1) 0 r)

-- after how many of its bytes a power cut or a reset came; work without a range acts fully if that is 1 or more, else not
unfoldable pub cut_after : Told → ℕ → Row → Row
cut_after t k r = pick (eqb t.size 0) (form (pick (eqb k 0) 18 19) 0 0 0 r) (form 17 (min k t.size) t.size 0 r)
