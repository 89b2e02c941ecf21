-- What is told of a frame's operands, by its opcode. Assumes nothing.
use Rattle.std.proofs.Common.{◌≡◌, ℕ, ◌<◌, true, refl, get_or}
use lib.Dec.{eqb}
use Rattle.std.proofs.lemmas.Bool.{eqb-true}
use Rattle.rules.specs.Words.{pick}
use Rattle.rules.specs.Frames.{frames}
use Rattle.rules.proofs.Bools.{upto, upto_at}
use Rattle.describing.specs.Commands.{opcodes, opcodes_of, place_of, operands}

abbrev pub kind_of : ℕ → ℕ
kind_of o =
    pick (eqb o 0x03) 1 (pick (eqb o 0x0B) 1 (pick (eqb o 0x6B) 1 (pick (eqb o 0x20) 1 (pick (eqb o 0xD8) 1 (pick (eqb o 0x0C) 1 (pick (eqb o 0xEC) 1 (pick (eqb o 0x02) 2 (pick (eqb o 0x32) 2 (pick (eqb o 0x42) 3 (pick (eqb o 0xE8) 3 (pick (eqb o 0x88) 4 (pick (eqb o 0xA5) 5 (pick (eqb o 0x01) 6 (pick (eqb o 0xC0) 7 0))))))))))))))

-- a test of each byte
each_kind : upto 256 (λ o. eqb (get_or operands (place_of opcodes o) 0) (kind_of o)) ≡ true
unfolding opcodes opcodes_of frames place_of operands
each_kind = refl

pub kind_is : (o : ℕ) → o < 256 → get_or operands (place_of opcodes o) 0 ≡ kind_of o
kind_is o h = eqb-true _ _ (upto_at 256 (λ o. eqb (get_or operands (place_of opcodes o) 0) (kind_of o)) each_kind o h)
