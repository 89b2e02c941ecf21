-- What is found is the first fault, and none is found exactly of a right file. Assumes nothing.
use Rattle.std.proofs.Common.{◌≡◌, ap, ◌∙◌, arith, Some, is_none, length}
use borrow.Author.Tests.{ne_eqb}
use Rattle.image.specs.declared.What.{What}
use Rattle.image.specs.Form.{number_from, file_size_lem}
use Rattle.image.specs.Faults.{fault_of, first_fault}
use Rattle.image.proofs.Faults.{found, faults_tell}
use Rattle.image_reading.proofs.faults.fault.Goals as goal

pub returns-then-l-ne2148374-clause-tells : goal.returns-then-l-ne2148374-clause-tells
unfolding first_fault
returns-then-l-ne2148374-clause-tells c = let l = c.args.l.now in
    let value : Some (fault_of What.Length 0 (length l) file_size_lem) ≡ first_fault l = rw (ne_eqb _ _ c.if-l-ne2148374.true) in
    ap is_none value ∙ faults_tell l (λ i. omega (arith, c.type_inv.l i))

pub returns-clause-tells : goal.returns-clause-tells
unfolding first_fault number_from
returns-clause-tells c = let l = c.args.l.now in
    let value : c.or_else-3.result ≡ first_fault l = grind (arith, found) in
    ap is_none value ∙ faults_tell l (λ i. omega (arith, c.type_inv.l i))
