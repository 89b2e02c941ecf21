-- What a refusal leaves, byte by byte: 1 and 12 change nothing at all (Boundary's untouched); 2 to 11, which only frames get, as said here.
-- Proved in proofs/Refusals.
use Rattle.std.specs.Prelude.{ℕ, ◌+◌, ◌*◌, ◌/◌, ◌%◌, ◌<◌, List, eqb, length, get_or, set, replicate}
use Rattle.rules.specs.Words.{pick}
use Rattle.rules.specs.Promises.{Carried}
use Rattle.record_code.specs.Layout.{place_of}
use Rattle.bench.specs.Boundary.{LentBench, Came, came_of}

-- what the type of a lent byte says
abbrev pub OfBytes : List ℕ → Type 0
OfBytes l = (i : ℕ) → get_or l i 0 < 256

-- the record's bytes with the reset enable used up: bit 6 of the flags is 0, and all else is as it was
abbrev pub enable_used : List ℕ → List ℕ
enable_used l = let x = get_or l (place_of "flags") 0 in set l (place_of "flags") (x % 64 + x / 128 * 128)

-- the reply is all FF and the marks all 0; the memories stay, and of the record 2 changes nothing and 3 to 11 use up the reset enable
abbrev pub refused_frame : ℕ → LentBench → Carried → Came
refused_frame n b f =
    came_of n (pick (eqb n 2) b.bytes (enable_used b.bytes)) b.array b.security (replicate (length f.reply) 0xFF) (replicate (length f.marks) 0)
