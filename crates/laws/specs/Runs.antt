-- A run of a meter from its making.
use Rattle.std.specs.Prelude.{◌≡◌, Bool, List}
use Rattle.rules.specs.declared.month_rule.MonthRule as month
use Rattle.rules.specs.declared.quote.Quote.{Quote}
use Rattle.rules.specs.declared.quote_rule.QuoteRule as quoting
use Rattle.calls.specs.declared.call.Call.{Call}
use Rattle.calls.specs.Answers.{Answer}
use Rattle.accounts.specs.Counting.{Rule}
use Rattle.accounts.specs.States.{State}
use Rattle.accounts.specs.Steps.{Judgement, run, answers, just_made}
use Rattle.book.specs.View.{view}
use Rattle.laws.specs.declared.replay.Run.{Run}

-- What a run comes to: what its meter's rules mean, the calls, what they were answered, and what they left.
pub record Outcome : Type 0 where
  pub meets : Rule
  pub better : Quote → Quote → Bool
  pub judge : Judgement
  pub calls : List Call
  pub answers : List Answer
  pub left : State

-- Of a run of the calls cs, by what the two rules of its meter mean.
abbrev pub outcome : {Q M : Type 0} → quoting.Ghosts Q → month.Ghosts M → List Call → Run Q M → Outcome
outcome quote_rule month_rule cs r = record {
  meets = quote_rule.meets r.meter.rulebook.quote_rule;
  better = quote_rule.better r.meter.rulebook.quote_rule;
  judge = month_rule.verdict r.meter.rulebook.month_rule;
  calls = cs;
  answers = r.answers.items;
  left = view r.meter.book;
}

-- The calls were answered so, and left that of a meter just made.
pub record Ran (o : Outcome) : Type 0 where
  pub answered : o.answers ≡ answers o.meets just_made o.calls
  pub left : o.left ≡ run o.meets just_made o.calls
