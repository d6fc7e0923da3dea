-- What an accepted call leaves, runs of calls, and what figures and statement answer.
use Rattle.std.specs.Prelude.{ℕ, ◌+◌, ◌-◌, true, false, cond, List, [], ◌∷◌, ◌++◌, map, Some, None, Ok, Err, Option, Result, ◌==◌}
use Rattle.rules.specs.declared.refusal.Refusal.{Refusal}
use Rattle.rules.specs.declared.refusal.Refusal.TheVariants.{FieldOutOfRange, DayOpen, NotEnrolled, NoObligedTime}
use Rattle.rules.specs.declared.month_figures.MonthFigures.{MonthFigures}
use Rattle.rules.specs.declared.verdict.Verdict.{Verdict}
use Rattle.rules.specs.Terms.{terms_of}
use Rattle.accounts.specs.declared.account.Account.{Account}
use Rattle.calls.specs.declared.account_key.AccountKey.{AccountKey}
use Rattle.calls.specs.declared.call.Call.{Call}
use Rattle.calls.specs.declared.call.Call.TheVariants.{Enrol, Strike, Open, At, Close, Turn}
use Rattle.accounts.specs.declared.figures.Figures.{Figures}
use Rattle.accounts.specs.declared.statement.Statement.{Statement}
use Rattle.calls.specs.declared.date.Date.{Date}
use Rattle.calls.specs.Answers.{Answer}
use Rattle.calls.specs.Keys.{key_in_range}
use Rattle.accounts.specs.Lists.{without}
use Rattle.accounts.specs.Settings.{Trading, quiet, trading_changed}
use Rattle.accounts.specs.Counting.{Rule}
use Rattle.accounts.specs.Accounts.{is, newcomer, account_opened, account_turned, touched, ended, figures_of}
use Rattle.accounts.specs.States.{Frame, State}
use Rattle.accounts.specs.Refusals.{account_of, refusal}

-- A frame with a day opened, with a change of the market at a stamp, with the day closed at a stamp, and turned.

abbrev pub frame_opened : Date → Frame → Frame
frame_opened d f = record { trading = quiet; day_open = true; clock = 0; last = Some d; closed = f.closed }

abbrev pub frame_stamped : Trading → ℕ → Frame → Frame
frame_stamped m n f = record { trading = m; day_open = f.day_open; clock = n; last = f.last; closed = f.closed }

abbrev pub frame_closed : ℕ → Frame → Frame
frame_closed n f = record { trading = f.trading; day_open = false; clock = n; last = f.last; closed = f.closed + 1 }

abbrev pub frame_turned : Frame → Frame
frame_turned f = record { trading = f.trading; day_open = f.day_open; clock = f.clock; last = f.last; closed = 0 }

abbrev pub frame_after : Frame → Call → Frame
frame_after f (Enrol k t) = f
frame_after f (Strike k) = f
frame_after f (Open d) = frame_opened d f
frame_after f (At n c) = frame_stamped (trading_changed c f.trading) n f
frame_after f (Close n) = frame_closed n f
frame_after f Turn = frame_turned f

-- The time before a stamp is counted under what stood before the call.
abbrev pub accounts_after : Rule → Frame → List Account → Call → List Account
accounts_after rule f accounts (Enrol k t) = accounts ++ newcomer k (terms_of t)
accounts_after rule f accounts (Strike k) = without (is k) accounts
accounts_after rule f accounts (Open d) = map account_opened accounts
accounts_after rule f accounts (At n c) = map (touched rule f.trading (n - f.clock) c) accounts
accounts_after rule f accounts (Close n) = map (ended rule f.trading (n - f.clock)) accounts
accounts_after rule f accounts Turn = map account_turned accounts

-- What an accepted call leaves.
abbrev pub taken : Rule → State → Call → State
taken rule s c = record { frame = frame_after s.frame c; accounts = accounts_after rule s.frame s.accounts c }

abbrev pub unless_refused : Rule → Answer → State → Call → State
unless_refused rule (Ok u) s c = taken rule s c
unless_refused rule (Err e) s c = s

-- What any call leaves: a refused one leaves everything as it stood.
abbrev pub step : Rule → State → Call → State
step rule s c = unless_refused rule (refusal s c) s c

abbrev pub run : Rule → State → List Call → State
run rule s [] = s
run rule s (c ∷ cs) = run rule (step rule s c) cs

abbrev pub answers : Rule → State → List Call → List Answer
answers rule s [] = []
answers rule s (c ∷ cs) = refusal s c ∷ answers rule (step rule s c) cs

-- No account, no day open, no last date and no closed day.
abbrev pub just_made : State
just_made = record { frame = record { trading = quiet; day_open = false; clock = 0; last = None; closed = 0 }; accounts = [] }

-- What figures and statement answer.

abbrev pub told : Option Account → Result Figures Refusal
told None = Err NotEnrolled
told (Some a) = Ok (figures_of a)

abbrev pub figures : State → AccountKey → Result Figures Refusal
figures s k = cond (key_in_range k) (told (account_of k s.accounts)) (Err FieldOutOfRange)

-- A month rule, by its verdict on a month's figures under a threshold.
abbrev pub Judgement : Type 0
Judgement = MonthFigures → ℕ → Verdict

abbrev pub stated : Judgement → Option Account → Result Statement Refusal
stated judge None = Err NotEnrolled
stated judge (Some a) = cond (a.month.obliged == 0) (Err NoObligedTime) (Ok (record { figures = figures_of a; verdict = judge a.month a.terms.threshold }))

abbrev pub statement : Judgement → State → AccountKey → Result Statement Refusal
statement judge s k = cond (key_in_range k) (cond s.frame.day_open (Err DayOpen) (stated judge (account_of k s.accounts))) (Err FieldOutOfRange)
