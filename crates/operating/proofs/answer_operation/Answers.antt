-- The 06 is stored, and the operation replies in the part after it. Assumes nothing.
use Rattle.operating.proofs.Answers.{answers, nothing_answered}
use Rattle.operating.proofs.answer_operation.Goals as goal

pub returns-then-answer-gt0 : goal.returns-then-answer-gt0
returns-then-answer-gt0 c =
    answers c.args.answer.now c.if-answer-gt0.true c.operate.ensures

pub returns : goal.returns
returns c = nothing_answered c.args.answer.now c.if-answer-gt0.false
