-- Only an A5 patches the Security ID. Assumes nothing.
use Rattle.rules.specs.Works.{security_range, tear_of}
use Rattle.blocks.proofs.Grouped.{no_security}
use Rattle.memory.proofs.Finishes.{finishes, finishes_none, security_number}
use native.Mathlib.Omega.{arith}
use borrow.Enum.Refused.{opened}
use Rattle.memory.proofs.finish_security.Goals as goal

pub overflow_mul-n : goal.overflow_mul-n
overflow_mul-n c =
    let h = security_number _ _ c.in-ProgramSecurity.is c.requires.0 in
    omega arith

pub program-requires : goal.program-requires
program-requires c =
    let h = security_number _ _ c.in-ProgramSecurity.is c.requires.0 in
    let l = c.requires.1 in
    (omega arith, l.1)

pub returns-in-ProgramSecurity : goal.returns-in-ProgramSecurity
returns-in-ProgramSecurity c =
    let a = c.args in
    finishes security_range a.w _ (tear_of a.k a.m) a.page.now _ a.security.now c.in-ProgramSecurity.is c.program.ensures

pub returns-in_default : goal.returns-in_default
returns-in_default c = let a = c.args in
    finishes_none security_range a.w (tear_of a.k a.m) a.page.now a.security.now (no_security a.w (opened c.in_default.in_default-own.keys2))
