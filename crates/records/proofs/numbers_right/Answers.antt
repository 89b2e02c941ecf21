-- Each kind of work has its bound. Assumes nothing.
use mathlib.Core.Path.{sym, ap}
use Rattle.rules.specs.WellFormed.{numbers_right}
use Rattle.records.proofs.numbers_right.Goals as goal

pub returns-in-EraseSector : goal.returns-in-EraseSector
returns-in-EraseSector c = ap numbers_right (sym c.in-EraseSector.is)

pub returns-in-EraseBlock : goal.returns-in-EraseBlock
returns-in-EraseBlock c = ap numbers_right (sym c.in-EraseBlock.is)

pub returns-in-ProgramPage : goal.returns-in-ProgramPage
returns-in-ProgramPage c = ap numbers_right (sym c.in-ProgramPage.is)

pub returns-in-ProgramSecurity : goal.returns-in-ProgramSecurity
returns-in-ProgramSecurity c = ap numbers_right (sym c.in-ProgramSecurity.is)
