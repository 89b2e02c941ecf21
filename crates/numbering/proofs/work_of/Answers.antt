-- Each kind has the layout's work, and any other number has none. Assumes nothing.
use borrow.Author.Tests.{ne_eqb}
use native.Mathlib.Nat.{div-one}
use Rattle.rules.specs.Words.{bit}
use Rattle.numbering.specs.Numbering.{work_of}
use Rattle.numbering.proofs.work_of.Goals as goal

pub returns-in-1 : goal.returns-in-1
unfolding work_of
returns-in-1 c = rw c.in-1.is

pub returns-in-2 : goal.returns-in-2
unfolding work_of
returns-in-2 c = rw c.in-2.is

pub returns-in-3 : goal.returns-in-3
unfolding work_of
returns-in-3 c = rw c.in-3.is

pub returns-in-4 : goal.returns-in-4
unfolding work_of
returns-in-4 c = rw c.in-4.is

pub returns-in-5 : goal.returns-in-5
unfolding work_of
returns-in-5 c = rw c.in-5.is

pub returns-in-6 : goal.returns-in-6
unfolding work_of
returns-in-6 c = rw c.in-6.is

pub returns-in-7 : goal.returns-in-7
unfolding work_of bit
returns-in-7 c = rw (c.in-7.is, div-one)

pub returns-in-8 : goal.returns-in-8
unfolding work_of
returns-in-8 c = rw c.in-8.is

pub returns-in_default : goal.returns-in_default
unfolding work_of
returns-in_default c = let r = c.in_default.in_default-own.rest in
    rw (
      ne_eqb c.args.kind 1 r.0.0.0.0.0.0.0.1,
      ne_eqb c.args.kind 2 r.0.0.0.0.0.0.1,
      ne_eqb c.args.kind 3 r.0.0.0.0.0.1,
      ne_eqb c.args.kind 4 r.0.0.0.0.1,
      ne_eqb c.args.kind 5 r.0.0.0.1,
      ne_eqb c.args.kind 6 r.0.0.1,
      ne_eqb c.args.kind 7 r.0.1,
      ne_eqb c.args.kind 8 r.1,
    )
