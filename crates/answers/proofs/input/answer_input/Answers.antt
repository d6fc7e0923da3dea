use Rattle.std.proofs.Common.{[], ◌∷◌}
use Rattle.answers.specs.Input.{none, more}
use Rattle.answers.proofs.input.answer_input.Goals as goal

pub returns-in_err-new : goal.returns-in_err-new
returns-in_err-new g c = ([], none)

pub loop-line-init : goal.loop-line-init
loop-line-init g c = ([], none)

pub returns-in_err-print_answer : goal.returns-in_err-print_answer
returns-in_err-print_answer g c = let was = c.loop-line.invariant in (_ ∷ was.0, more c.strip_return.result.now was.1 c.print_answer.ensures)

pub loop-line-preserved : goal.loop-line-preserved
loop-line-preserved g c = let was = c.loop-line.invariant in (_ ∷ was.0, more c.strip_return.result.now was.1 c.print_answer.ensures)
