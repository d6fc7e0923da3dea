use Rattle.std.proofs.Common.{Option, Result}
use Rattle.answers.specs.declared.fault.Fault.{Fault}
use Rattle.answers.specs.Input.{OnlyAnswers}
use Rattle.answers.specs.Lines.{LineAnswered}
use Rattle.lines.specs.Asked.{asked_of}
use Rattle.answers.proofs.input.answer_input.Given as goal

abbrev pub invariant-loop-line : goal.invariant-loop-line
invariant-loop-line g l = OnlyAnswers (λ s text t. (r : Result (Option g.row.A-Answer.Denot) Fault) × LineAnswered g.A.Answerer.answers (asked_of g.A.Question.Asked.asked_by text) s r t) l.initial.asked l.asked
