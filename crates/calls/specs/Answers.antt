-- What a call answers: accepted, or refused by the first condition that holds.
use Rattle.std.specs.Prelude.{Bool, true, false, Ok, Err, Result}
use Rattle.rules.specs.declared.refusal.Refusal.{Refusal}

abbrev pub Answer : Type 0
Answer = Result (Unit {0}) Refusal

abbrev pub accepted : Answer
accepted = Ok tt

abbrev pub when : Bool → Refusal → Answer → Answer
when true e rest = Err e
when false e rest = rest

-- The first answer if it refuses, otherwise the second.
abbrev pub first_of : Answer → Answer → Answer
first_of (Ok u) rest = rest
first_of (Err e) rest = Err e

-- Whether something could be made of what was given.
abbrev pub answer_of : {A : Type 0} → Result A Refusal → Answer
answer_of (Ok x) = accepted
answer_of (Err e) = Err e
