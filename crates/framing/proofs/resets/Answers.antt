-- Two tests that few frames pass, and then the rest. Assumes nothing.
use Prim.Native.Nat.{ℕ}
use mathlib.Core.Path.{◌≡◌, refl}
use mathlib.Core.Bool.{Bool, true, false, ◌&&◌}
use mathlib.Core.List.{List}
use lib.Dec.{eqb, leb}
use lib.ListN.{length}
use borrow.Author.Tests.{ne_eqb}
use Rattle.rules.specs.declared.Rest.{Rest}
use Rattle.rules.specs.Frames.{opcode}
use Rattle.rules.specs.Tears.{resets}

and_none : (a : Bool) → false ≡ (a && false)
and_none true = refl
and_none false = refl

module _ (known : Bool) (r : Rest) (sent : List ℕ) (y m : ℕ) where
  one-99 : (b : Bool) → length sent ≡ 1 → opcode sent ≡ 0x99 → b ≡ (leb 1 65536 && leb y 65536 && eqb y m) → (known && b && r.flags.enable) ≡ resets known r sent y m
  one-99 b l o e = rw (e, l, o)

  other_byte : length sent ≡ 1 → (opcode sent ≡ 0x99 → ⊥) → false ≡ resets known r sent y m
  other_byte l o = rw (l, ne_eqb (opcode sent) 0x99 o) (and_none (known && (leb 1 65536 && leb y 65536 && eqb y m)))

  other_length : (length sent ≡ 1 → ⊥) → false ≡ resets known r sent y m
  other_length l = rw (ne_eqb (length sent) 1 l) (and_none (known && (leb (length sent) 65536 && leb y 65536 && eqb y m)))
