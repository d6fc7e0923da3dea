-- How judged quotes are counted, and in which words the counts are told.
use Rattle.std.specs.Prelude.{ℕ, ◌+◌, ◌-◌, ◌^◌, min, List, ◌++◌, codes, decimal}
use Rattle.desk.specs.declared.answer.Answer.{Answer}
use Rattle.desk.specs.declared.answer.Answer.TheVariants.{Accepted, Meets, DoesNotMeet}
use Rattle.desk.specs.declared.tally.Tally.{Tally}

abbrev pub none_judged : Tally
none_judged = record { meet = 0; do_not_meet = 0 }

-- A sum that stays at the largest number of 64 bits.
abbrev pub capped : ℕ → ℕ
capped n = min n (2 ^ 64 - 1)

abbrev pub judged_in : Tally → ℕ
judged_in t = capped (t.meet + t.do_not_meet)

abbrev pub counted : Tally → Answer → Tally
counted t Accepted = t
counted t Meets = record { meet = capped (t.meet + 1); do_not_meet = t.do_not_meet }
counted t DoesNotMeet = record { meet = t.meet; do_not_meet = capped (t.do_not_meet + 1) }

abbrev pub tally_text : Tally → List ℕ
tally_text t =
    codes "quotes judged: " ++ (decimal (judged_in t)
    ++ (codes ", meet: " ++ (decimal t.meet ++ (codes ", do not meet: " ++ decimal t.do_not_meet))))
