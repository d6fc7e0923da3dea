-- When a meter refuses a call: by the call's own fields, by the day and the clock, by the account table, by the month.
use Rattle.std.specs.Prelude.{ℕ, Bool, false, not, ◌&&◌, List, length, is_some, Some, None, Option, nat_le, nat_lt}
use Rattle.rules.specs.declared.refusal.Refusal.TheVariants.{DayOpen, NoDayOpen, StampBelowClock, NotEnrolled, EnrolledAlready, TableFull, DateNotAfterLast, DaysUnturned, MonthFull}
use Rattle.accounts.specs.declared.account.Account.{Account}
use Rattle.calls.specs.declared.account_key.AccountKey.{AccountKey}
use Rattle.calls.specs.declared.call.Call.{Call}
use Rattle.calls.specs.declared.call.Call.TheVariants.{Enrol, Strike, Open, At, Close, Turn}
use Rattle.calls.specs.declared.change.Change.{Change}
use Rattle.calls.specs.declared.change.Change.TheVariants as change
use Rattle.calls.specs.declared.date.Date.{Date}
use Rattle.calls.specs.Answers.{Answer, accepted, when, first_of}
use Rattle.calls.specs.Calendar.{later, same_month}
use Rattle.calls.specs.Calls.{field_refusal}
use Rattle.accounts.specs.Lists.{find}
use Rattle.accounts.specs.Accounts.{is}
use Rattle.accounts.specs.States.{Frame, State}

-- The day and the clock.

abbrev pub between_days : Frame → Answer
between_days f = when f.day_open DayOpen accepted

abbrev pub within_day : Frame → ℕ → Answer
within_day f n = when (not f.day_open) NoDayOpen (when (nat_lt n f.clock) StampBelowClock accepted)

abbrev pub day_refusal : Frame → Call → Answer
day_refusal f (Enrol k t) = between_days f
day_refusal f (Strike k) = between_days f
day_refusal f (Open d) = between_days f
day_refusal f (At n c) = within_day f n
day_refusal f (Close n) = within_day f n
day_refusal f Turn = between_days f

-- The account table.

abbrev pub account_of : AccountKey → List Account → Option Account
account_of k accounts = find (is k) accounts

abbrev pub enrolled : AccountKey → List Account → Bool
enrolled k accounts = is_some (account_of k accounts)

abbrev pub enrolment_refusal : List Account → AccountKey → Answer
enrolment_refusal accounts k = when (not (enrolled k accounts)) NotEnrolled accepted

abbrev pub change_refusal : List Account → Change → Answer
change_refusal accounts (change.Phase i p) = accepted
change_refusal accounts (change.Fast f) = accepted
change_refusal accounts (change.Exempt k f) = enrolment_refusal accounts k
change_refusal accounts (change.Quote k s) = enrolment_refusal accounts k
change_refusal accounts (change.Withdraw k) = enrolment_refusal accounts k

abbrev pub room_refusal : List Account → AccountKey → Answer
room_refusal accounts k = when (enrolled k accounts) EnrolledAlready (when (nat_le 128 (length accounts)) TableFull accepted)

abbrev pub table_refusal : List Account → Call → Answer
table_refusal accounts (Enrol k t) = room_refusal accounts k
table_refusal accounts (Strike k) = enrolment_refusal accounts k
table_refusal accounts (Open d) = accepted
table_refusal accounts (At n c) = change_refusal accounts c
table_refusal accounts (Close n) = accepted
table_refusal accounts Turn = accepted

-- The month.

-- an account with closed days that are not yet turned
abbrev pub unturned : Option Account → Bool
unturned None = false
unturned (Some a) = nat_lt 0 a.month.days

abbrev pub not_after : Option Date → Date → Bool
not_after None d = false
not_after (Some last) d = not (later d last)

abbrev pub other_month : Option Date → Date → Bool
other_month None d = false
other_month (Some last) d = not (same_month d last)

abbrev pub date_refusal : Option Date → ℕ → Date → Answer
date_refusal last closed d = when (not_after last d) DateNotAfterLast (when (nat_lt 0 closed && other_month last d) DaysUnturned (when (nat_le 31 closed) MonthFull accepted))

abbrev pub month_refusal : Frame → List Account → Call → Answer
month_refusal f accounts (Enrol k t) = accepted
month_refusal f accounts (Strike k) = when (unturned (account_of k accounts)) DaysUnturned accepted
month_refusal f accounts (Open d) = date_refusal f.last f.closed d
month_refusal f accounts (At n c) = accepted
month_refusal f accounts (Close n) = accepted
month_refusal f accounts Turn = accepted

-- Accepted, or the first refusal in the order of these four places.
abbrev pub refusal : State → Call → Answer
refusal s c =
    first_of (field_refusal c)
    (first_of (day_refusal s.frame c)
    (first_of (table_refusal s.accounts c)
    (month_refusal s.frame s.accounts c)))
