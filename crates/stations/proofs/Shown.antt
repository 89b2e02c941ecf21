-- What a read of the list shows of a memory: no place of it has a read lock, so each is hidden by the suspended range or shows its byte. Assumes nothing.
use Prim.Native.Nat.{ℕ, ◌+◌, ◌*◌, ◌<◌}
use mathlib.Core.Path.{◌≡◌, refl, sym, ap, ◌∙◌}
use mathlib.Core.Bool.{Bool, false}
use native.Mathlib.Omega.{arith}
use lib.Dec.{ltb}
use borrow.Author.Tests.{lt-ltb}
use Rattle.rules.specs.declared.Cell.{Cell}
use Rattle.rules.specs.declared.Range.{Range}
use Rattle.rules.specs.Words.{pick, holds, Lent}
use Rattle.rules.specs.Works.{array_range}
use Rattle.rules.specs.Reading.{known, unknown, place_cell}
use Rattle.rules.specs.Numbers.{State}
use Rattle.rules.proofs.Bools.{never}
use Rattle.stations.specs.Slots.{Shown, slot_count, byte_of}
use Rattle.stations.specs.Calls.{list_size}
use Rattle.stations.specs.Keeping.{list_start, shown_at}
use Rattle.stations.proofs.Programmed.{no_read_lock}

-- under a protection register and a suspended range
unfoldable pub list_of : ℕ → Range → Lent → Shown
list_of protection r mem q = pick (ltb q list_size) (place_cell protection r mem (list_start + q)) unknown

pub shown_list : (s : State) → shown_at s ≡ list_of s.chip.rest.locks.protection (array_range s.chip.rest.works.suspended) s.array
unfolding shown_at list_of
shown_list s = refl

module _ (protection : ℕ) (r : Range) (mem : Lent) where
  pub list_cell : (q : ℕ) → q < 65536 → list_of protection r mem q ≡ pick (holds r (0x10000 + q)) unknown (known (mem.byte (0x10000 + q)))
  unfolding list_of place_cell
  list_cell q h = rw (lt-ltb q 65536 h, no_read_lock protection q h)

  pub list_plain : (q : ℕ) → q < 65536 → holds r (0x10000 + q) ≡ false → list_of protection r mem q ≡ known (mem.byte (0x10000 + q))
  list_plain q h e = list_cell q h ∙ ap (λ (b : Bool). pick b unknown (known (mem.byte (0x10000 + q)))) e

  -- a byte other than 00 is not hidden
  pub list_open : (i j b : ℕ) → i < slot_count → j < 32 → byte_of (list_of protection r mem) i j ≡ b → (b ≡ 0 → ⊥)
      → (holds r (0x10000 + (i * 32 + j)) ≡ false) × (mem.byte (0x10000 + (i * 32 + j)) ≡ b)
  unfolding byte_of
  list_open i j b l h e ne = (seen, sym (ap (λ (c : Cell). c.byte) (list_plain (i * 32 + j) (omega arith) seen)) ∙ e)
    where
      seen : holds r (0x10000 + (i * 32 + j)) ≡ false
      seen =
          never (holds r (0x10000 + (i * 32 + j))) (λ z.
          ne (sym e ∙ ap (λ (c : Cell). c.byte) (list_cell (i * 32 + j) (omega arith) ∙ ap (λ (b : Bool). pick b unknown (known (mem.byte (0x10000 + (i * 32 + j))))) z)))

-- the same byte, the same cell
pub list_same : (protection : ℕ) (r : Range) (mem new : Lent) (q : ℕ) → q < 65536 → new.byte (0x10000 + q) ≡ mem.byte (0x10000 + q)
    → list_of protection r new q ≡ list_of protection r mem q
list_same protection r mem new q h e =
    list_cell protection r new q h ∙ ap (λ (x : ℕ). pick (holds r (0x10000 + q)) unknown (known x)) e ∙ sym (list_cell protection r mem q h)

-- locks do not matter
pub list_locks : (p p' : ℕ) (r : Range) (mem : Lent) (q : ℕ) → q < 65536 → list_of p r mem q ≡ list_of p' r mem q
list_locks p p' r mem q h = list_cell p r mem q h ∙ sym (list_cell p' r mem q h)
