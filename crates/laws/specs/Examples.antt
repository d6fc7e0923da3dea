-- A worked day, and an instance of each law that meets its premise and changes something, so that no law holds of nothing.
use Rattle.std.specs.Prelude.{◌≡◌, ℕ, ◌≢◌, List, [], ◌∷◌, ◌++◌, Ok, Err, Result}
use Rattle.rules.specs.declared.conditions.Conditions.{Conditions}
use Rattle.rules.specs.declared.refusal.Refusal.{Refusal}
use Rattle.rules.specs.declared.refusal.Refusal.TheVariants.{StampBelowClock, NotEnrolled, DaysUnturned}
use Rattle.rules.specs.declared.sides.Sides.{Sides}
use Rattle.rules.specs.declared.verdict.Verdict.{Verdict}
use Rattle.rules.specs.declared.verdict.Verdict.TheVariants.{Kept, Breach}
use Rattle.rules.specs.Vienna.{vienna_meets, vienna_better}
use Rattle.rules.specs.Months.{ratio_verdict}
use Rattle.calls.specs.declared.account_key.AccountKey.{AccountKey}
use Rattle.calls.specs.declared.call.Call.{Call}
use Rattle.calls.specs.declared.call.Call.TheVariants.{Enrol, Strike, Open, At, Close, Turn}
use Rattle.calls.specs.declared.change.Change.TheVariants.{Phase, Fast, Exempt, Quote, Withdraw}
use Rattle.calls.specs.declared.date.Date.{Date}
use Rattle.accounts.specs.declared.figures.Figures.{Figures}
use Rattle.accounts.specs.declared.statement.Statement.{Statement}
use Rattle.calls.specs.Answers.{Answer, accepted}
use Rattle.accounts.specs.Counting.{no_time, no_month}
use Rattle.accounts.specs.Steps.{run, answers, just_made, figures, statement}
use Rattle.laws.specs.Tighter.{Bettered, Each, own_calls}
use Rattle.laws.specs.Exchange.{Exchangeable, exchange_all, MayAll}
use Rattle.laws.specs.Milliseconds.{accepted_calls, figures_from}

-- Maker 7 in instrument 12, a maker who is never enrolled, one who quotes beside maker 7, and one who is enrolled late.

abbrev pub account : AccountKey
account = record { maker = 7; instrument = 12 }

abbrev pub stranger : AccountKey
stranger = record { maker = 8; instrument = 12 }

abbrev pub bystander : AccountKey
bystander = record { maker = 9; instrument = 12 }

abbrev pub latecomer : AccountKey
latecomer = record { maker = 10; instrument = 12 }

abbrev pub conditions : ℕ → Conditions
conditions threshold = record { class = 3; tier = 0; limit = 1; minimum = 300; threshold = threshold }

abbrev pub the_date : Date
the_date = record { year = 2025; month = 3; day = 3 }

abbrev pub sides : ℕ → ℕ → Sides
sides bid ask = record { bid = bid; ask = ask; bid_size = 300; ask_size = 300 }

-- Class 3 allows a spread of 150 basis points of the bid: the first is narrow enough, the second is not.

abbrev pub narrow : Sides
narrow = sides 100_000 101_000

abbrev pub wide : Sides
wide = sides 100_000 102_000

-- What is answered under Vienna's quote rule and the month rule of the ratio.

abbrev pub answered : List Call → List Answer
answered cs = answers vienna_meets just_made cs

abbrev pub figured_for : List Call → AccountKey → Result Figures Refusal
figured_for cs k = figures (run vienna_meets just_made cs) k

abbrev pub stated_for : List Call → AccountKey → Result Statement Refusal
stated_for cs k = statement ratio_verdict (run vienna_meets just_made cs) k

abbrev pub figured : List Call → Result Figures Refusal
figured cs = figured_for cs account

abbrev pub stated : List Call → Result Statement Refusal
stated cs = stated_for cs account

-- The figures and the statement after the first day's close.

abbrev pub first_day : ℕ → ℕ → ℕ → Figures
first_day obliged qualified kept_days =
    record { today = no_time; month = record { obliged = obliged; qualified = qualified; days = 1; kept_days = kept_days } }

abbrev pub first_day_stated : ℕ → ℕ → ℕ → Verdict → Result Statement Refusal
first_day_stated obliged qualified kept_days verdict = Ok (record { figures = first_day obliged qualified kept_days; verdict = verdict })

abbrev pub worked_calls : ℕ → List Call
worked_calls threshold =
    Enrol account (conditions threshold)
    ∷ Open the_date
    ∷ At 32_400_000 (Phase 12 2)
    ∷ At 34_200_000 (Quote account narrow)
    ∷ At 55_800_000 (Withdraw account)
    ∷ At 63_000_000 (Phase 12 0)
    ∷ Close 64_800_000
    ∷ []

-- A day of six qualified hours in eight and a half obliged ones, with the last threshold that it keeps and the first that it breaches.
pub record WorkedDay : Type 0 where
  pub answers : answered (worked_calls 7_000) ≡ accepted ∷ accepted ∷ accepted ∷ accepted ∷ accepted ∷ accepted ∷ accepted ∷ []
  pub kept : stated (worked_calls 7_000) ≡ first_day_stated 30_600_000 21_600_000 1 Kept
  pub just_kept : stated (worked_calls 7_058) ≡ first_day_stated 30_600_000 21_600_000 1 Kept
  pub just_breached : stated (worked_calls 7_059) ≡ first_day_stated 30_600_000 21_600_000 0 Breach

-- The same day before and after better quoting, with a bystander who quotes alike in both; the call with the early stamp is refused.

abbrev pub loose_calls : List Call
loose_calls =
    Enrol account (conditions 7_000)
    ∷ Enrol bystander (conditions 7_000)
    ∷ Open the_date
    ∷ At 32_400_000 (Phase 12 2)
    ∷ At 33_000_000 (Quote bystander narrow)
    ∷ At 34_200_000 (Quote account wide)
    ∷ At 34_100_000 (Withdraw account)
    ∷ At 50_000_000 (Withdraw account)
    ∷ At 60_000_000 (Withdraw bystander)
    ∷ At 63_000_000 (Phase 12 0)
    ∷ Close 64_800_000
    ∷ []

abbrev pub tight_calls : List Call
tight_calls =
    Enrol account (conditions 7_000)
    ∷ Enrol bystander (conditions 7_000)
    ∷ Open the_date
    ∷ At 32_400_000 (Phase 12 2)
    ∷ At 33_000_000 (Quote bystander narrow)
    ∷ At 34_200_000 (Quote account narrow)
    ∷ At 34_100_000 (Withdraw account)
    ∷ At 50_000_000 (Quote account narrow)
    ∷ At 60_000_000 (Withdraw bystander)
    ∷ At 63_000_000 (Phase 12 0)
    ∷ Close 64_800_000
    ∷ []

abbrev pub early_refused : List Answer
early_refused =
    accepted ∷ accepted ∷ accepted ∷ accepted ∷ accepted ∷ accepted ∷ Err StampBelowClock ∷ accepted ∷ accepted ∷ accepted ∷ accepted ∷ []

-- A tighter quote in place of a wide one and a quote in place of a withdrawal turn a breach into kept, and leave the bystander as it was.
pub record TighterTurnsBreachIntoKept : Type 0 where
  pub premise : Each (Bettered vienna_better) loose_calls tight_calls
  pub loose_answers : answered loose_calls ≡ early_refused
  pub tight_answers : answered tight_calls ≡ early_refused
  pub breach : stated loose_calls ≡ first_day_stated 30_600_000 0 0 Breach
  pub kept : stated tight_calls ≡ first_day_stated 30_600_000 28_800_000 1 Kept
  pub own_calls_differ : own_calls account loose_calls ≢ own_calls account tight_calls
  pub bystander_calls : own_calls bystander loose_calls ≡ At 33_000_000 (Quote bystander narrow) ∷ At 60_000_000 (Withdraw bystander) ∷ []
  pub bystander_calls_stayed : own_calls bystander loose_calls ≡ own_calls bystander tight_calls
  pub bystander_before : stated_for loose_calls bystander ≡ first_day_stated 30_600_000 27_000_000 1 Kept
  pub bystander_after : stated_for tight_calls bystander ≡ first_day_stated 30_600_000 27_000_000 1 Kept

-- Two pairs of calls of one stamp, each in both orders: the phase of instrument 12 with a quote that is accepted, and the phase
-- with a quote of an account that is not enrolled.

abbrev pub phases_first : List Call
phases_first =
    Enrol account (conditions 7_000)
    ∷ Open the_date
    ∷ At 36_000_000 (Phase 12 2)
    ∷ At 36_000_000 (Quote account narrow)
    ∷ At 63_000_000 (Phase 12 0)
    ∷ At 63_000_000 (Quote stranger narrow)
    ∷ Close 64_800_000
    ∷ []

abbrev pub quotes_first : List Call
quotes_first =
    Enrol account (conditions 7_000)
    ∷ Open the_date
    ∷ At 36_000_000 (Quote account narrow)
    ∷ At 36_000_000 (Phase 12 2)
    ∷ At 63_000_000 (Quote stranger narrow)
    ∷ At 63_000_000 (Phase 12 0)
    ∷ Close 64_800_000
    ∷ []

-- Exchanged, the calls of both pairs take their answers along, and the account's statement stays.
pub record ExchangedPairs : Type 0 where
  pub premise : MayAll Exchangeable (2 ∷ 4 ∷ []) phases_first
  pub exchanged : quotes_first ≡ exchange_all (2 ∷ 4 ∷ []) phases_first
  pub phases_first_answers : answered phases_first ≡ accepted ∷ accepted ∷ accepted ∷ accepted ∷ accepted ∷ Err NotEnrolled ∷ accepted ∷ []
  pub quotes_first_answers : answered quotes_first ≡ accepted ∷ accepted ∷ accepted ∷ accepted ∷ Err NotEnrolled ∷ accepted ∷ accepted ∷ []
  pub calls_differ : phases_first ≢ quotes_first
  pub answers_differ : answered phases_first ≢ answered quotes_first
  pub phases_first_stated : stated phases_first ≡ first_day_stated 27_000_000 27_000_000 1 Kept
  pub quotes_first_stated : stated quotes_first ≡ first_day_stated 27_000_000 27_000_000 1 Kept

-- A quote that is withdrawn at its own stamp, one that stands for longer, a fast market, and a call with an early stamp.
abbrev pub short_calls : List Call
short_calls =
    Enrol account (conditions 7_000)
    ∷ Open the_date
    ∷ At 2 (Phase 12 2)
    ∷ At 3 (Quote account narrow)
    ∷ At 3 (Withdraw account)
    ∷ At 4 (Quote account narrow)
    ∷ At 10 (Fast 1)
    ∷ At 9 (Withdraw account)
    ∷ At 12 (Fast 0)
    ∷ At 16 (Withdraw account)
    ∷ []

abbrev pub short_calls_closed : List Call
short_calls_closed = short_calls ++ (Close 17 ∷ [])

-- An account's figures, each time counted one millisecond after the other.

abbrev pub counted_out_for : List Call → AccountKey → Result Figures Refusal
counted_out_for cs k = figures_from vienna_meets k (accepted_calls cs (answered cs))

abbrev pub counted_out : List Call → Result Figures Refusal
counted_out cs = counted_out_for cs account

-- A short day, still open and then closed: counting out its milliseconds gives the figures that the meter tells.
pub record DayByTheMilliseconds : Type 0 where
  pub answers : answered short_calls_closed
      ≡ accepted ∷ accepted ∷ accepted ∷ accepted ∷ accepted ∷ accepted ∷ accepted ∷ Err StampBelowClock ∷ accepted ∷ accepted ∷ accepted ∷ []
  pub counted_open : counted_out short_calls ≡ Ok (record { today = record { obliged = 12; qualified = 10 }; month = no_month })
  pub told_open : figured short_calls ≡ Ok (record { today = record { obliged = 12; qualified = 10 }; month = no_month })
  pub counted_closed : counted_out short_calls_closed ≡ Ok (first_day 13 10 1)
  pub told_closed : figured short_calls_closed ≡ Ok (first_day 13 10 1)

-- Two days of March, each with a closing stamp below 13; an exemption on and off; a latecomer between the days; and, with the
-- days not turned, a strike and an opening in April that are refused.
abbrev pub march_calls : List Call
march_calls =
    Enrol account (conditions 7_000)
    ∷ Enrol bystander (conditions 7_000)
    ∷ Open the_date
    ∷ At 1 (Phase 12 2)
    ∷ At 2 (Quote account narrow)
    ∷ At 5 (Exempt account 1)
    ∷ At 8 (Exempt account 0)
    ∷ Close 12
    ∷ Enrol latecomer (conditions 7_000)
    ∷ Open (record { year = 2025; month = 3; day = 4 })
    ∷ At 1 (Phase 12 2)
    ∷ At 3 (Quote latecomer narrow)
    ∷ At 4 (Quote bystander narrow)
    ∷ Close 11
    ∷ Strike bystander
    ∷ Open (record { year = 2025; month = 4; day = 1 })
    ∷ []

-- The month turned, and the bystander struck.
abbrev pub turned_calls : List Call
turned_calls = march_calls ++ (Turn ∷ Strike bystander ∷ [])

-- The bystander enrolled again with a lower threshold, and a day of April.
abbrev pub april_calls : List Call
april_calls = turned_calls ++ (
    Enrol bystander (conditions 4_000)
    ∷ Open (record { year = 2025; month = 4; day = 1 })
    ∷ At 1 (Phase 12 2)
    ∷ At 2 (Quote account narrow)
    ∷ At 6 (Quote bystander narrow)
    ∷ Close 10
    ∷ [])

-- An answer for each of the three makers who are enrolled.
abbrev pub of_each : {A : Type 0} → (AccountKey → A) → List A
of_each f = f account ∷ f bystander ∷ f latecomer ∷ []

abbrev pub month_told : ℕ → ℕ → ℕ → ℕ → Result Figures Refusal
month_told obliged qualified days kept_days =
    Ok (record { today = no_time; month = record { obliged = obliged; qualified = qualified; days = days; kept_days = kept_days } })

abbrev pub in_march : List (Result Figures Refusal)
in_march = month_told 18 7 2 1 ∷ month_told 21 7 2 1 ∷ month_told 10 8 1 1 ∷ []

abbrev pub when_turned : List (Result Figures Refusal)
when_turned = month_told 0 0 0 0 ∷ Err NotEnrolled ∷ month_told 0 0 0 0 ∷ []

abbrev pub in_april : List (Result Figures Refusal)
in_april = month_told 9 8 1 1 ∷ month_told 9 4 1 1 ∷ month_told 9 0 1 0 ∷ []

-- Two months, with accounts that come and go: counting out the milliseconds gives the figures that the meter tells.
pub record MonthsByTheMilliseconds : Type 0 where
  pub answers : answered april_calls
      ≡ accepted ∷ accepted ∷ accepted ∷ accepted ∷ accepted ∷ accepted ∷ accepted ∷ accepted
      ∷ accepted ∷ accepted ∷ accepted ∷ accepted ∷ accepted ∷ accepted ∷ Err DaysUnturned ∷ Err DaysUnturned
      ∷ accepted ∷ accepted
      ∷ accepted ∷ accepted ∷ accepted ∷ accepted ∷ accepted ∷ accepted ∷ []
  pub counted_in_march : of_each (counted_out_for march_calls) ≡ in_march
  pub told_in_march : of_each (figured_for march_calls) ≡ in_march
  pub counted_when_turned : of_each (counted_out_for turned_calls) ≡ when_turned
  pub told_when_turned : of_each (figured_for turned_calls) ≡ when_turned
  pub counted_in_april : of_each (counted_out_for april_calls) ≡ in_april
  pub told_in_april : of_each (figured_for april_calls) ≡ in_april
