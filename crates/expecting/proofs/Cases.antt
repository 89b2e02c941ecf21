-- The definitions speak: a few cases, computed. Assumes nothing.
use mathlib.Core.Path.{◌≡◌, refl}
use mathlib.Core.Bool.{true, false}
use mathlib.Core.List.{[], ◌∷◌}
use Rattle.expecting.specs.Expectations.{differs, unheld_at, unheld, unmet}

-- 11 expected: met by 11, not by 12, and not by a byte that the chip calls unknown, whatever it reads
pub same_byte : differs (0x11 ∷ []) (1 ∷ []) (0x11 ∷ []) (1 ∷ []) 0 ≡ false
unfolding differs
same_byte = refl

pub other_byte : differs (0x12 ∷ []) (1 ∷ []) (0x11 ∷ []) (1 ∷ []) 0 ≡ true
unfolding differs
other_byte = refl

pub unknown_byte : differs (0x11 ∷ []) (0 ∷ []) (0x11 ∷ []) (1 ∷ []) 0 ≡ true
unfolding differs
unknown_byte = refl

-- ~11 expected: met by 11 where the chip calls it unknown, and by nothing else
pub called_unknown : differs (0x11 ∷ []) (0 ∷ []) (0x11 ∷ []) (2 ∷ []) 0 ≡ false
unfolding differs
called_unknown = refl

pub called_known : differs (0x11 ∷ []) (1 ∷ []) (0x11 ∷ []) (2 ∷ []) 0 ≡ true
unfolding differs
called_known = refl

pub another_unknown : differs (0x12 ∷ []) (0 ∷ []) (0x11 ∷ []) (2 ∷ []) 0 ≡ true
unfolding differs
another_unknown = refl

-- ?? expected: met by any byte, known or not
pub any_byte : differs (0x12 ∷ []) (1 ∷ []) (0 ∷ []) (0 ∷ []) 0 ≡ false
unfolding differs
any_byte = refl

pub any_unknown_byte : differs (0 ∷ []) (0 ∷ []) (0 ∷ []) (0 ∷ []) 0 ≡ false
unfolding differs
any_unknown_byte = refl

-- no place of the reply: an expected byte is not met
pub no_byte : differs [] [] (0x11 ∷ []) (1 ∷ []) 0 ≡ true
unfolding differs
no_byte = refl

-- a line whose number and bytes are both not met counts twice, one with two faults of its bytes once
pub both_unmet : unmet (record { number = true; strict = false; length = false; kept = false; place = 2; compared = 4 }) ≡ 2
unfolding unmet
both_unmet = refl

pub bytes_unmet : unmet (record { number = false; strict = false; length = true; kept = false; place = 2; compared = 4 }) ≡ 1
unfolding unmet
bytes_unmet = refl

pub all_met : unmet (record { number = false; strict = false; length = false; kept = false; place = 4; compared = 4 }) ≡ 0
unfolding unmet
all_met = refl

-- a memory of 11 22 11 holds 11 22 over and over from its start, and not from its second place
pub over_and_over : unheld (0x11 ∷ 0x22 ∷ 0x11 ∷ []) 0 (0x11 ∷ 0x22 ∷ []) (1 ∷ 1 ∷ []) 2 2 ≡ false
unfolding unheld unheld_at
over_and_over = refl

pub from_another_place : unheld (0x11 ∷ 0x22 ∷ 0x11 ∷ []) 1 (0x11 ∷ 0x22 ∷ []) (1 ∷ 1 ∷ []) 2 0 ≡ true
unfolding unheld unheld_at
from_another_place = refl
