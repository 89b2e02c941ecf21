-- Why refusal 11 was given, behind a row: the block, and what opens it.
use Rattle.std.specs.Prelude.{ℕ, zero, suc, ◌+◌, ◌-◌, Bool, List, eqb}
use Rattle.rules.specs.declared.Rest.{Rest}
use Rattle.rules.specs.declared.Block.{Block}
use Rattle.rules.specs.Words.{bit, pick}
use Rattle.rules.specs.Blocks.{block_at, block_of}
use Rattle.rules.specs.Frames.{address}
use Rattle.writing.specs.declared.Row.{Row}
use Rattle.page.specs.Page.{form}

-- the first block of the table from i on, of k, whose write lock is set
unfoldable pub locked_from : ℕ → ℕ → ℕ → ℕ
locked_from zero p i = 0
locked_from (suc k) p i = pick (bit (block_at i).write p) i (locked_from k p (i + 1))

-- 11: the block, its range and its bit, and what opens it
unfoldable pub block_why : Block → ℕ → Bool → Row → Row
block_why b permanent wpld r =
    form (pick (bit b.write permanent) 78 (pick wpld 77 76)) b.start (b.start + b.size - 1) b.write r

unfoldable pub locked_block : ℕ → ℕ → List ℕ → ℕ
locked_block p o sent = pick (eqb o 0xC7) (locked_from 40 p 0) (block_of (address sent))

abbrev pub locked_why : Rest → ℕ → List ℕ → Row → Row
locked_why c o sent r = block_why (block_at (locked_block c.locks.protection o sent)) c.locks.permanent c.flags.wpld r
