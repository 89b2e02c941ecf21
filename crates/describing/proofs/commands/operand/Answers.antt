-- By the opcode; of another than these nothing is told. Assumes nothing.
use Rattle.std.proofs.Common.{◌≡◌, arith}
use Rattle.std.proofs.lemmas.Grind.{common_steps}
use Rattle.rules.specs.Frames.{opcode}
use Rattle.describing.specs.Commands.{operand_on}
use Rattle.describing.proofs.Operands.{kind_of, kind_is}
use Rattle.describing.proofs.commands.operand.Goals as goal

pub returns-in_default : goal.returns-in_default
unfolding operand_on
returns-in_default c =
    let z : kind_of (opcode c.args.sent.now) ≡ 0 = grind (arith, common_steps) in
    rw (kind_is (opcode c.args.sent.now) (omega arith), z)

pub returns-in_default-2 : goal.returns-in_default-2
unfolding operand_on
returns-in_default-2 c =
    let z : kind_of (opcode c.args.sent.now) ≡ 0 = grind (arith, common_steps) in
    rw (kind_is (opcode c.args.sent.now) (omega arith), z)
