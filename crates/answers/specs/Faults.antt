-- In which words it is told why a line has no answer.
use Rattle.std.specs.Prelude.{ℕ, List, codes}
use Rattle.rules.specs.Refusals.{refusal_text}
use Rattle.answers.specs.declared.fault.Fault.{Fault}
use Rattle.answers.specs.declared.fault.Fault.TheVariants.{Unreadable, Refused}

abbrev pub fault_text : Fault → List ℕ
fault_text Unreadable = codes "unreadable"
fault_text (Refused e) = refusal_text e
