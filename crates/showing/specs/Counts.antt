-- How many bytes of a reply or a dump are shown, and in how many rows. docs/PLAYER.md: "long replies and dumps in full, or cut with a count (as at the start)".
use Rattle.std.specs.Prelude.{ℕ, ◌+◌, ◌/◌, ◌%◌, min, Bool, List, eqb}
use Rattle.rules.specs.Words.{pick}
use Rattle.rules.specs.Blocks.{array_size_lem, security_size_lem}
use Rattle.grammar.specs.Slots as slots
use Rattle.grammar.specs.Verbs as verbs
use Rattle.fields.specs.Records.{slot}
use Rattle.byte_text.specs.Bytes.{within}

-- how many of its bytes a dump has: none lie past the memory's end
unfoldable pub dumped : List ℕ → ℕ
dumped s =
    pick (eqb (slot s slots.of_id) 0) (within array_size_lem (slot s slots.from) (slot s slots.size)) (within security_size_lem (slot s slots.from) (slot s slots.size))

-- all of n bytes, or so many at most
unfoldable pub shown : Bool → ℕ → ℕ → ℕ
shown full n most = pick full n (min n most)

-- sixteen bytes a row, the last row may have fewer
unfoldable pub rows_of : ℕ → ℕ
rows_of n = pick (eqb (n % 16) 0) (n / 16) (n / 16 + 1)

-- of a reply 64; a reply of 65,537 bytes stands for every longer one
unfoldable pub reply_shown : Bool → ℕ → ℕ
reply_shown full wanted = shown full (min wanted 65537) 64

-- of a dump 64 where its bytes are compared, else 4,096
unfoldable pub dump_shown : Bool → List ℕ → ℕ
dump_shown full s = pick (eqb (slot s slots.expecting) 0) (shown full (dumped s) 4096) (shown full (dumped s) 64)

-- the rows of a line's bytes: of a reply, of the six bits of a status, of the 256 groups of 8 KB with their locks, of a dump; of what is found two; of the stations one for
-- each slot, and one for what is left out
unfoldable pub count_of : ℕ → Bool → List ℕ → ℕ
count_of verb full s =
    pick (eqb verb verbs.frame) (rows_of (reply_shown full (slot s slots.wanted)))
    (pick (eqb verb verbs.status) 6
    (pick (eqb verb verbs.locks) 256
    (pick (eqb verb verbs.dump) (rows_of (dump_shown full s))
    (pick (eqb verb verbs.find) 2
    (pick (eqb verb verbs.stations) 2049 0)))))
