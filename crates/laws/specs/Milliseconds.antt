-- Time is what the milliseconds say: every figure of an account as a count over milliseconds, from the accepted calls alone.
use Rattle.std.specs.Prelude.{◌≡◌, ℕ, ◌+◌, Bool, true, false, cond, List, [], ◌∷◌, length, Some, None, Ok, Err, Option, Result, ◌==◌, nat_le}
use Rattle.std.specs.Result.{result_ok}
use Rattle.rules.specs.declared.refusal.Refusal.{Refusal}
use Rattle.rules.specs.declared.refusal.Refusal.TheVariants.{FieldOutOfRange, DayOpen, NotEnrolled, NoObligedTime}
use Rattle.rules.specs.declared.terms.Terms.{Terms}
use Rattle.rules.specs.declared.month_figures.MonthFigures.{MonthFigures}
use Rattle.rules.specs.Terms.{terms_of}
use Rattle.calls.specs.declared.account_key.AccountKey.{AccountKey}
use Rattle.calls.specs.declared.call.Call.{Call}
use Rattle.calls.specs.declared.call.Call.TheVariants.{Enrol, Strike, Open, At, Close, Turn}
use Rattle.calls.specs.declared.change.Change.{Change}
use Rattle.accounts.specs.declared.day_figures.DayFigures.{DayFigures}
use Rattle.accounts.specs.declared.figures.Figures.{Figures}
use Rattle.accounts.specs.declared.statement.Statement.{Statement}
use Rattle.calls.specs.Answers.{Answer}
use Rattle.calls.specs.Keys.{same_key, key_in_range}
use Rattle.accounts.specs.Settings.{Setting, at_opening, changed}
use Rattle.accounts.specs.Counting.{Rule, count, no_time, tally, kept_day}
use Rattle.accounts.specs.States.{State}
use Rattle.accounts.specs.Steps.{Judgement, figures, statement}

-- The calls that were accepted, the newest first, onto those accepted before.
abbrev pub accepted_onto : List Call → List Call → List Answer → List Call
accepted_onto past [] xs = past
accepted_onto past (c ∷ cs) [] = past
accepted_onto past (c ∷ cs) (Ok u ∷ xs) = accepted_onto (c ∷ past) cs xs
accepted_onto past (c ∷ cs) (Err e ∷ xs) = accepted_onto past cs xs

abbrev pub accepted_calls : List Call → List Answer → List Call
accepted_calls cs xs = accepted_onto [] cs xs

-- What is asked of the accepted calls below is answered by looking back from the newest.

-- Whether a day is open.
abbrev pub day_open : List Call → Bool
day_open [] = false
day_open (Enrol k t ∷ older) = day_open older
day_open (Strike k ∷ older) = day_open older
day_open (Open d ∷ older) = true
day_open (At n c ∷ older) = day_open older
day_open (Close n ∷ older) = false
day_open (Turn ∷ older) = day_open older

-- The changes since the last opening, the newest first.
pub record Stamped : Type 0 where
  pub stamp : ℕ
  pub change : Change

abbrev pub changes : List Call → List Stamped
changes [] = []
changes (Enrol k t ∷ older) = changes older
changes (Strike k ∷ older) = changes older
changes (Open d ∷ older) = []
changes (At n c ∷ older) = record { stamp = n; change = c } ∷ changes older
changes (Close n ∷ older) = changes older
changes (Turn ∷ older) = changes older

-- The terms of the account, if it is enrolled.
abbrev pub terms_now : AccountKey → List Call → Option Terms
terms_now k [] = None
terms_now k (Enrol l t ∷ older) = cond (same_key l k) (result_ok (terms_of t)) (terms_now k older)
terms_now k (Strike l ∷ older) = cond (same_key l k) None (terms_now k older)
terms_now k (Open d ∷ older) = terms_now k older
terms_now k (At n c ∷ older) = terms_now k older
terms_now k (Close n ∷ older) = terms_now k older
terms_now k (Turn ∷ older) = terms_now k older

-- The days closed since the later of the account's enrolment and the last turn: the changes of each, and the stamp of its close.
pub record Day : Type 0 where
  pub changes : List Stamped
  pub end : ℕ

abbrev pub closed_days : AccountKey → List Call → List Day
closed_days k [] = []
closed_days k (Enrol l t ∷ older) = cond (same_key l k) [] (closed_days k older)
closed_days k (Strike l ∷ older) = closed_days k older
closed_days k (Open d ∷ older) = closed_days k older
closed_days k (At n c ∷ older) = closed_days k older
closed_days k (Close n ∷ older) = record { changes = changes older; end = n } ∷ closed_days k older
closed_days k (Turn ∷ older) = []

-- The account's setting at millisecond t: what the changes with stamps up to t have set, each thing as it was set last.
abbrev pub setting_at : List Stamped → AccountKey → ℕ → Setting
setting_at [] k t = at_opening
setting_at (x ∷ older) k t = cond (nat_le x.stamp t) (changed x.change k (setting_at older k t)) (setting_at older k t)

-- The clock of a day: the last accepted stamp.
abbrev pub last_stamp : List Stamped → ℕ
last_stamp [] = 0
last_stamp (x ∷ older) = x.stamp

abbrev pub sum : (Day → ℕ) → List Day → ℕ
sum f [] = 0
sum f (d ∷ ds) = sum f ds + f d

module _ (rule : Rule) (k : AccountKey) (t : Terms) where
  -- The milliseconds below n at which the account is obliged, and those of them at which it qualifies.
  abbrev pub time_below : ℕ → List Stamped → DayFigures
  time_below n xs = tally rule (λ test. count (λ m. test (setting_at xs k m)) n) t

  abbrev pub day_time : Day → DayFigures
  day_time d = time_below d.end d.changes

  abbrev pub today : Bool → List Stamped → DayFigures
  today true xs = time_below (last_stamp xs) xs
  today false xs = no_time

  abbrev pub month : List Day → MonthFigures
  month ds = record {
    obliged = sum (λ d. (day_time d).obliged) ds;
    qualified = sum (λ d. (day_time d).qualified) ds;
    days = length ds;
    kept_days = sum (λ d. cond (kept_day t (day_time d)) 1 0) ds;
  }

  abbrev pub figures_counted : List Call → Figures
  figures_counted past = record { today = today (day_open past) (changes past); month = month (closed_days k past) }

-- The verdict on counted figures.
abbrev pub judged : Judgement → Terms → Figures → Result Statement Refusal
judged judge t f = cond (f.month.obliged == 0) (Err NoObligedTime) (Ok (record { figures = f; verdict = judge f.month t.threshold }))

module _ (rule : Rule) (k : AccountKey) (past : List Call) where
  -- What figures answers.
  abbrev pub counted_for : Option Terms → Result Figures Refusal
  counted_for None = Err NotEnrolled
  counted_for (Some t) = Ok (figures_counted rule k t past)

  abbrev pub figures_from : Result Figures Refusal
  figures_from = cond (key_in_range k) (counted_for (terms_now k past)) (Err FieldOutOfRange)

  -- What statement answers.
  abbrev pub judged_for : Judgement → Option Terms → Result Statement Refusal
  judged_for judge None = Err NotEnrolled
  judged_for judge (Some t) = judged judge t (figures_counted rule k t past)

  abbrev pub statement_from : Judgement → Result Statement Refusal
  statement_from judge = cond (key_in_range k) (cond (day_open past) (Err DayOpen) (judged_for judge (terms_now k past))) (Err FieldOutOfRange)

-- What holds of a run: figures and statement of every account are told by the calls and their answers alone.
abbrev pub MillisecondsTell : Rule → Judgement → List Call → List Answer → State → Type 0
MillisecondsTell rule judge cs xs s =
    (k : AccountKey) →
    (figures s k ≡ figures_from rule k (accepted_calls cs xs)) × (statement judge s k ≡ statement_from rule k (accepted_calls cs xs) judge)
