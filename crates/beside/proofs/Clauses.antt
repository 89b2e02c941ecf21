-- The clauses of refusal 8: ranges inside the array, opcodes that go to no block, and nothing suspended. Assumes nothing.
use Prim.Native.Nat.{ℕ, ◌+◌, ◌≤◌, ◌<◌}
use mathlib.Core.Path.{◌≡◌, refl, sym, ◌∙◌}
use mathlib.Core.Bool.{Bool, true, false, not, ◌&&◌, ◌||◌, and-true, and-false}
use mathlib.Core.List.{List, [], ◌∷◌}
use borrow.Author.Tests.{not-true}
use Rattle.rules.specs.declared.Block.{Block}
use Rattle.rules.specs.declared.Range.{Range}
use Rattle.rules.specs.declared.Rest.{Rest}
use Rattle.rules.specs.declared.Work.{Work}
use Rattle.rules.specs.Words.{one_of}
use Rattle.rules.specs.Blocks.{array_size_lem, block_at}
use Rattle.rules.specs.Works.{is_nothing, can_suspend, array_range}
use Rattle.rules.specs.WellFormed.{numbers_right}
use Rattle.rules.specs.Registers.{wse, wsp}
use Rattle.rules.specs.Numbers.{suspends_wrongly, resumes_nothing, must_wait, suspension}
use Rattle.rules.proofs.Blocks.{block_placed}
use Rattle.rules.proofs.Ranges.{array_inside}
use Rattle.rules.proofs.WellFormed.{nothing}
use Rattle.named.proofs.Lists.{not_among}

-- ---- ranges

pub found_inside : (w : Work) (r : Range) → numbers_right w ≡ true → r ≡ array_range w → r.start + r.size ≤ array_size_lem
found_inside w r h e = rw e (array_inside w h)

pub block_inside : (n : ℕ) (b : Block) → n < 40 → b ≡ block_at n → b.start + b.size ≤ array_size_lem
block_inside n b h e = rw e (block_placed n h).inside

-- ---- work of the other kind

pub other_kind_lem : (w x y : Bool) → x ≡ w → not x ≡ true → false ≡ (w && y)
other_kind_lem w x y e n = rw (sym e ∙ not-true x n)

-- ---- an opcode that goes to no block

or_two : (a : Bool) → a ≡ (a || false || false)
or_two true = refl
or_two false = refl

module _ (r : Rest) (o : ℕ) (sent : List ℕ) where
  abbrev changing : List ℕ
  changing = 0x20 ∷ 0xD8 ∷ 0x02 ∷ 0x32 ∷ []

  pub no_block : (x : Bool) → x ≡ one_of o changing → not x ≡ true → (suspends_wrongly r o || resumes_nothing r o || must_wait r o) ≡ suspension r o sent
  no_block x e n =
      let none = sym e ∙ not-true x n in
      rw (not_among changing (0x20 ∷ 0xD8 ∷ []) o refl none, not_among changing (0x02 ∷ 0x32 ∷ []) o refl none, not_among changing (0x20 ∷ []) o refl none, not_among changing (0xD8 ∷ []) o refl none, and-false (wse r), and-false (wsp r))
      (or_two (suspends_wrongly r o || resumes_nothing r o || must_wait r o))

-- ---- nothing suspended

or_three : (a : Bool) → a ≡ (a || false || false || false)
or_three true = refl
or_three false = refl

pub none_beside : (r : Rest) (o : ℕ) (sent : List ℕ) → is_nothing r.works.suspended ≡ true
    → (one_of o (0xB0 ∷ []) && not (can_suspend r.works.running) || one_of o (0x30 ∷ [])) ≡ suspension r o sent
none_beside r o sent e =
    let b = one_of o (0xB0 ∷ []) in
    let c = can_suspend r.works.running in
    let t = one_of o (0x30 ∷ []) in
    let w = one_of o (0xC7 ∷ 0x01 ∷ 0x42 ∷ 0x8D ∷ 0xE8 ∷ 0x98 ∷ 0xA5 ∷ 0x85 ∷ []) in
    rw (nothing r.works.suspended e, and-true c, and-true t, and-false w) (or_three (b && not c || t))
