-- In which words answers are told.
use Rattle.std.specs.Prelude.{ℕ, List, codes}
use Rattle.accounts.specs.Texts.{figures_text, statement_text}
use Rattle.dialogue.specs.declared.answer.Answer.{Answer}
use Rattle.dialogue.specs.declared.answer.Answer.TheVariants as answer

abbrev pub answer_text : Answer → List ℕ
answer_text answer.Accepted = codes "accepted"
answer_text (answer.Figures f) = figures_text f
answer_text (answer.Statement s) = statement_text s
