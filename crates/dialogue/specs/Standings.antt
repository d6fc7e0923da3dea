-- How an account stands, in one meter and in two.
use Rattle.std.specs.Prelude.{ℕ, List, ◌++◌, Ok, Err, codes, decimal, Result}
use Rattle.rules.specs.declared.refusal.Refusal.{Refusal}
use Rattle.rules.specs.Refusals.{refusal_text}
use Rattle.calls.specs.declared.account_key.AccountKey.{AccountKey}
use Rattle.accounts.specs.declared.figures.Figures.{Figures}
use Rattle.accounts.specs.declared.statement.Statement.{Statement}
use Rattle.dialogue.specs.declared.standing.Standing.{Standing}
use Rattle.dialogue.specs.declared.standing.Standing.TheVariants.{Stated, Unstated, Refused}
use Rattle.accounts.specs.Texts.{figures_text, statement_text}

-- By what figures and statement answer.
abbrev pub standing_of : Result Figures Refusal → Result Statement Refusal → Standing
standing_of figures (Ok s) = Stated s
standing_of (Ok f) (Err e) = Unstated f e
standing_of (Err d) (Err e) = Refused d

abbrev pub standing_text : Standing → List ℕ
standing_text (Stated s) = statement_text s
standing_text (Unstated f e) = figures_text f ++ (codes " " ++ refusal_text e)
standing_text (Refused e) = refusal_text e

-- MAKER INSTRUMENT => FIRST | SECOND
abbrev pub contrast_text : AccountKey → Standing → Standing → List ℕ
contrast_text k first second =
    decimal k.maker ++ (codes " " ++ (decimal k.instrument ++ (codes " => " ++ (standing_text first ++ (codes " | " ++ standing_text second)))))
