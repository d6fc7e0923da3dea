-- The word of each call.
use Rattle.std.specs.Prelude.{ℕ, cond, List, Some, None, codes, Option}
use Rattle.std.specs.Str.{bytes_eq}
use Rattle.script.specs.declared.verb.Verb.{Verb}
use Rattle.script.specs.declared.verb.Verb.TheVariants.{Enrol, Strike, Open, Phase, Fast, Exempt, Quote, Withdraw, Close, Turn, Figures, Statement}

abbrev pub verb_named : List ℕ → Option Verb
verb_named w =
    cond (bytes_eq w (codes "enrol")) (Some Enrol)
    (cond (bytes_eq w (codes "strike")) (Some Strike)
    (cond (bytes_eq w (codes "open")) (Some Open)
    (cond (bytes_eq w (codes "phase")) (Some Phase)
    (cond (bytes_eq w (codes "fast")) (Some Fast)
    (cond (bytes_eq w (codes "exempt")) (Some Exempt)
    (cond (bytes_eq w (codes "quote")) (Some Quote)
    (cond (bytes_eq w (codes "withdraw")) (Some Withdraw)
    (cond (bytes_eq w (codes "close")) (Some Close)
    (cond (bytes_eq w (codes "turn")) (Some Turn)
    (cond (bytes_eq w (codes "figures")) (Some Figures)
    (cond (bytes_eq w (codes "statement")) (Some Statement) None)))))))))))
