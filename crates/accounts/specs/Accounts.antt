-- An account, and what each call makes of it.
use Rattle.std.specs.Prelude.{ℕ, Bool, false, List, [], ◌∷◌, None, Ok, Err, Option, Result, slice_get, option_map}
use Rattle.rules.specs.declared.quote.Quote.{Quote}
use Rattle.rules.specs.declared.terms.Terms.{Terms}
use Rattle.rules.specs.declared.refusal.Refusal.{Refusal}
use Rattle.rules.specs.declared.month_figures.MonthFigures.{MonthFigures}
use Rattle.accounts.specs.declared.account.Account.{Account}
use Rattle.calls.specs.declared.account_key.AccountKey.{AccountKey}
use Rattle.calls.specs.declared.change.Change.{Change}
use Rattle.accounts.specs.declared.day_figures.DayFigures.{DayFigures}
use Rattle.accounts.specs.declared.figures.Figures.{Figures}
use Rattle.calls.specs.declared.phase.Phase.{Phase}
use Rattle.calls.specs.Keys.{same_key}
use Rattle.accounts.specs.Settings.{Setting, Trading, override, sets_exempt, sets_quote}
use Rattle.accounts.specs.Counting.{Rule, no_time, no_month, spent, month_with}

-- Whether k names the account.
abbrev pub is : AccountKey → Account → Bool
is k a = same_key k a.key

-- An account with other settings, and one with other figures.

abbrev pub with_settings : Bool → Option Quote → Account → Account
with_settings e q a = record { key = a.key; terms = a.terms; exempt = e; quote = q; today = a.today; month = a.month }

abbrev pub with_figures : DayFigures → MonthFigures → Account → Account
with_figures x m a = record { key = a.key; terms = a.terms; exempt = a.exempt; quote = a.quote; today = x; month = m }

-- An account's setting in this phase of its instrument, in a market that is fast or not.
abbrev pub under : Phase → Bool → Account → Setting
under p f a = record { phase = p; fast = f; exempt = a.exempt; quote = a.quote }

abbrev pub setting_of : Trading → Account → Setting
setting_of m a = under (m.phase a.key.instrument) m.fast a

-- d milliseconds more
abbrev pub counted : Rule → ℕ → Setting → Account → Account
counted rule d s a = with_figures (spent rule d a.terms s a.today) a.month a

abbrev pub settled : Rule → Trading → ℕ → Account → Account
settled rule m d a = counted rule d (setting_of m a) a

abbrev pub account_changed : Change → Account → Account
account_changed c a = with_settings (override (sets_exempt c a.key) a.exempt) (override (sets_quote c a.key) a.quote) a

abbrev pub account_opened : Account → Account
account_opened a = with_settings false None a

abbrev pub account_closed : Account → Account
account_closed a = with_figures no_time (month_with a.terms a.today a.month) a

abbrev pub account_turned : Account → Account
account_turned a = with_figures a.today no_month a

-- d milliseconds more, and then a change.
abbrev pub touched : Rule → Trading → ℕ → Change → Account → Account
touched rule m d c a = account_changed c (settled rule m d a)

-- d milliseconds more, and then the end of the day.
abbrev pub ended : Rule → Trading → ℕ → Account → Account
ended rule m d a = account_closed (settled rule m d a)

abbrev pub newly_enrolled : AccountKey → Terms → Account
newly_enrolled k t = record { key = k; terms = t; exempt = false; quote = None; today = no_time; month = no_month }

-- The account that an enrolment adds, if its terms could be made.
abbrev pub newcomer : AccountKey → Result Terms Refusal → List Account
newcomer k (Ok t) = newly_enrolled k t ∷ []
newcomer k (Err e) = []

abbrev pub figures_of : Account → Figures
figures_of a = record { today = a.today; month = a.month }

-- What names the account at place i, counted from 0.
abbrev pub key_at : List Account → ℕ → Option AccountKey
key_at accounts i = option_map (λ a. a.key) (slice_get accounts i)
