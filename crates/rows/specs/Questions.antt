-- The locks by address: runs of 8-KB groups whose locks are the same.
use Rattle.std.specs.Prelude.{ℕ, zero, suc, ◌+◌, ◌-◌, ◌*◌, ◌%◌, ◌&&◌, eqb}
use Rattle.rules.specs.declared.Block.{Block}
use Rattle.rules.specs.Words.{bit, num, pick}
use Rattle.rules.specs.Blocks.{block_at, block_of}
use Rattle.writing.specs.declared.Row.{Row}
use Rattle.page.specs.Page.{form}
use Rattle.rows.specs.Events.{below}

-- the locks of a block as bits: 1 write, 2 read, 4 permanent
unfoldable pub locks : Block → ℕ → ℕ → ℕ
locks b protection permanent =
    num (bit b.write protection) + 2 * num (b.paired && bit (b.write + 1) protection) + 4 * num (bit b.write permanent)

-- of the group g of the 256
unfoldable pub lock_state : ℕ → ℕ → ℕ → ℕ
lock_state g protection permanent = locks (block_at (block_of (g % 256 * 8192))) protection permanent

-- the first of k groups from h on whose locks are not s, or the one after them
unfoldable pub run_end : ℕ → ℕ → ℕ → ℕ → ℕ → ℕ
run_end zero s p q h = h
run_end (suc k) s p q h = pick (eqb (lock_state h p q) s) (run_end k s p q (h + 1)) h

-- the groups from g to before h, with their locks
abbrev pub run_row : ℕ → ℕ → ℕ → Row
run_row g h s = form (160 + s) 0 0 0 (below 159 (g * 8192) (h * 8192 - 1) 0)
