-- Nothing to refuse, or the clause's tests. Assumes nothing.
use mathlib.Core.Path.{sym, ap, ◌∙◌}
use mathlib.Core.Bool.{not}
use native.Mathlib.Omega.{arith}
use Rattle.blocks.proofs.Shape.{number_small}
use Rattle.beside.proofs.Clauses.{block_inside, other_kind_lem}
use Rattle.beside.proofs.beside_program.Goals as goal

pub returns-then-not-is_program : goal.returns-then-not-is_program
returns-then-not-is_program c = other_kind_lem _ _ _ c.is_program.ensures (ap not c.if-not-is_program.true)

pub block_at-b-requires : goal.block_at-b-requires
block_at-b-requires c = number_small _ _ c.address_of-a.ensures.inside c.block_of.ensures

pub holds_place-in_sector-requires : goal.holds_place-in_sector-requires
holds_place-in_sector-requires c = let h = c.address_of-a.ensures.inside in omega arith

pub holds_place-in_block-requires : goal.holds_place-in_block-requires
holds_place-in_block-requires c = block_inside _ _ (number_small _ _ c.address_of-a.ensures.inside c.block_of.ensures) c.block_at-b.ensures

pub returns : goal.returns
returns c = rw ((sym c.is_program.ensures ∙ c.if-not-is_program.false), c.is-2.ensures, c.is.ensures, c.programs.ensures, c.holds_place-in_block.ensures, c.holds_place-in_sector.ensures, c.block_at-b.ensures, c.block_of.ensures, c.address_of-a.ensures.value, c.array_range-page.ensures)
