-- What a command is answered, and what it leaves of the meter.
use Rattle.std.specs.Prelude.{Result}
use Rattle.std.specs.Result.{result_map_both}
use Rattle.rules.specs.declared.refusal.Refusal.{Refusal}
use Rattle.accounts.specs.States.{State}
use Rattle.accounts.specs.Refusals.{refusal}
use Rattle.accounts.specs.Counting.{Rule}
use Rattle.accounts.specs.Steps.{Judgement, step, figures, statement}
use Rattle.answers.specs.declared.fault.Fault.{Fault}
use Rattle.answers.specs.declared.fault.Fault.TheVariants.{Refused}
use Rattle.script.specs.declared.command.Command.{Command}
use Rattle.script.specs.declared.command.Command.TheVariants as command
use Rattle.dialogue.specs.declared.answer.Answer.{Answer}
use Rattle.dialogue.specs.declared.answer.Answer.TheVariants.{Accepted, Figures, Statement}

abbrev pub told : {A : Type 0} → (A → Answer) → Result A Refusal → Result Answer Fault
told tell r = result_map_both tell Refused r

abbrev pub answer_to : Judgement → State → Command → Result Answer Fault
answer_to judge s (command.Call c) = told (λ _. Accepted) (refusal s c)
answer_to judge s (command.Figures k) = told Figures (figures s k)
answer_to judge s (command.Statement k) = told Statement (statement judge s k)

abbrev pub state_after : Rule → State → Command → State
state_after rule s (command.Call c) = step rule s c
state_after rule s (command.Figures k) = s
state_after rule s (command.Statement k) = s
