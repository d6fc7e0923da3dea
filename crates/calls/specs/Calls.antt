-- What the call's own fields have against it.
use Rattle.std.specs.Prelude.{ℕ, Bool, true, not, ◌&&◌, is_some, nat_le}
use Rattle.rules.specs.declared.refusal.Refusal.TheVariants.{FieldOutOfRange, NoSuchDate}
use Rattle.rules.specs.Quotes.{quote_of}
use Rattle.rules.specs.Terms.{terms_of}
use Rattle.calls.specs.declared.call.Call.{Call}
use Rattle.calls.specs.declared.call.Call.TheVariants.{Enrol, Strike, Open, At, Close, Turn}
use Rattle.calls.specs.declared.change.Change.{Change}
use Rattle.calls.specs.declared.change.Change.TheVariants as change
use Rattle.calls.specs.Answers.{Answer, accepted, when, answer_of}
use Rattle.calls.specs.Calendar.{is_date}
use Rattle.calls.specs.Keys.{instrument_in_range, key_in_range}
use Rattle.calls.specs.Phases.{phase_of}

abbrev pub stamp_in_range : ℕ → Bool
stamp_in_range n = nat_le n 86_400_000

abbrev pub flag_in_range : ℕ → Bool
flag_in_range f = nat_le f 1

abbrev pub change_in_range : Change → Bool
change_in_range (change.Phase i p) = instrument_in_range i && is_some (phase_of p)
change_in_range (change.Fast f) = flag_in_range f
change_in_range (change.Exempt k f) = key_in_range k && flag_in_range f
change_in_range (change.Quote k s) = key_in_range k
change_in_range (change.Withdraw k) = key_in_range k

abbrev pub sides_refusal : Change → Answer
sides_refusal (change.Phase i p) = accepted
sides_refusal (change.Fast f) = accepted
sides_refusal (change.Exempt k f) = accepted
sides_refusal (change.Quote k s) = answer_of (quote_of s)
sides_refusal (change.Withdraw k) = accepted

abbrev pub call_in_range : Call → Bool
call_in_range (Enrol k t) = key_in_range k
call_in_range (Strike k) = key_in_range k
call_in_range (Open d) = true
call_in_range (At n c) = stamp_in_range n && change_in_range c
call_in_range (Close n) = stamp_in_range n
call_in_range Turn = true

-- Terms, a date or the sides of a quote.
abbrev pub value_refusal : Call → Answer
value_refusal (Enrol k t) = answer_of (terms_of t)
value_refusal (Strike k) = accepted
value_refusal (Open d) = when (not (is_date d)) NoSuchDate accepted
value_refusal (At n c) = sides_refusal c
value_refusal (Close n) = accepted
value_refusal Turn = accepted

abbrev pub field_refusal : Call → Answer
field_refusal c = when (not (call_in_range c)) FieldOutOfRange (value_refusal c)
