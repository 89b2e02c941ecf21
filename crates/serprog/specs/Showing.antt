-- The disguise: flashrom knows the 3-volt sibling, identity BF 26 41, and not the chip, BF 26 51.
use Rattle.std.specs.Prelude.{ℕ, ◌%◌, Bool, ◌&&◌, ◌||◌, eqb}
use Rattle.rules.specs.Words.{pick, Lent, written}

-- it is asked for, and the frame was a done 9F or AF
abbrev pub disguised : Bool → Bool → ℕ → Bool
disguised disguise done op = disguise && done && (eqb op 0x9F || eqb op 0xAF)

-- byte i of an identity, which repeats every 3 bytes: 41 in the place of the device byte
abbrev pub sibling : ℕ → ℕ → ℕ
sibling i b = pick (eqb (i % 3) 2) 0x41 b

-- byte i that the tool is shown where the chip replied b
abbrev pub shown_byte : Bool → Bool → ℕ → ℕ → ℕ → ℕ
shown_byte disguise done op i b = pick (disguised disguise done op) (sibling i b) b

abbrev pub shown_reply : Bool → Bool → ℕ → Lent → Lent
shown_reply disguise done op r = written r.size (λ i. shown_byte disguise done op i (r.byte i))
