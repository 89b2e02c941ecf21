-- 01, Protection blocks.
use Rattle.std.specs.Prelude.{ℕ, zero, suc, ◌+◌, ◌*◌, Bool, true, false, not, ◌&&◌, List, [], ◌∷◌, get_or}
use Rattle.rules.specs.declared.Block.{Block}
use Rattle.rules.specs.declared.Range.{Range}
use Rattle.rules.specs.Words.{bit, pick, every, range, holds, overlap}

-- 8 KB from s: the even bit n is the write lock, the odd bit n + 1 the read lock
abbrev pub pair : ℕ → ℕ → Block
pair n s = record { start = s; size = 0x2000; write = n; paired = true }

-- one bit, a write lock
abbrev pub single : ℕ → ℕ → ℕ → Block
single n s z = record { start = s; size = z; write = n; paired = false }

-- 64 KB: bit n from (n + 1) × 10000, from the bit below k down to 0
unfoldable pub wide : ℕ → List Block
wide zero = []
wide (suc n) = single n ((n + 1) * 0x10000) 0x10000 ∷ wide n

unfoldable pub blocks : List Block
blocks =
    pair 46 0x1FE000 ∷ pair 44 0x1FC000 ∷ pair 42 0x1FA000 ∷ pair 40 0x1F8000
    ∷ pair 38 0x006000 ∷ pair 36 0x004000 ∷ pair 34 0x002000 ∷ pair 32 0x000000
    ∷ single 31 0x1F0000 0x8000
    ∷ single 30 0x008000 0x8000
    ∷ wide 30

abbrev pub array_size_lem : ℕ
array_size_lem = 0x200000

abbrev pub security_size_lem : ℕ
security_size_lem = 0x800

-- the places of a block
abbrev pub span : Block → Range
span b = range b.start b.size

-- the number, in a list, of the first block that holds the place
unfoldable pub seek : List Block → ℕ → ℕ
seek [] a = 0
seek (b ∷ bs) a = pick (holds (span b) a) 0 (suc (seek bs a))

unfoldable pub block_of : ℕ → ℕ
block_of a = seek blocks a

unfoldable pub block_at : ℕ → Block
block_at n = get_or blocks n (single 48 0 0)

-- the locks of a place under a protection register
unfoldable pub write_locked : ℕ → ℕ → Bool
write_locked p a = bit (block_at (block_of a)).write p

unfoldable pub read_locked : ℕ → ℕ → Bool
read_locked p a = (block_at (block_of a)).paired && bit ((block_at (block_of a)).write + 1) p

-- no block that has a place in the range is write-locked
unfoldable pub unlocked : ℕ → Range → Bool
unlocked p r = every (λ b. not (overlap (span b) r && bit b.write p)) blocks

-- the 48 bits: those of the write locks, and those of the read locks
abbrev pub write_locks : ℕ
write_locks = 0x5555_FFFF_FFFF

abbrev pub read_locks : ℕ
read_locks = 0xAAAA_0000_0000

abbrev pub all_locks : ℕ
all_locks = 0xFFFF_FFFF_FFFF

abbrev pub power_up_locks : ℕ
power_up_locks = 0x5555_FFFF_FFFF
