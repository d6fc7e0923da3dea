-- What the code and the laws share, said a second time from another side: by tables, by edges, and each refusal by one flat list.
use Rattle.std.specs.Prelude.{◌≡◌, ℕ, ◌+◌, Bool, true, false, cond, not, ◌&&◌, ◌≢◌, List, [], ◌∷◌, map, length, is_ok, Some, None, Ok, Err, Option, ◌==◌, nat_le, nat_lt, refl}
use Rattle.rules.specs.declared.conditions.Conditions.{Conditions}
use Rattle.rules.specs.declared.quote.Quote.{Quote}
use Rattle.rules.specs.declared.refusal.Refusal.{Refusal}
use Rattle.rules.specs.declared.refusal.Refusal.TheVariants.{FieldOutOfRange, QuoteOutOfLimits, BidNotBelowAsk, NoSuchDate}
use Rattle.rules.specs.declared.refusal.Refusal.TheVariants.{DayOpen, NoDayOpen, StampBelowClock, NotEnrolled, EnrolledAlready, TableFull}
use Rattle.rules.specs.declared.refusal.Refusal.TheVariants.{DateNotAfterLast, DaysUnturned, MonthFull, NoObligedTime}
use Rattle.rules.specs.declared.sides.Sides.{Sides}
use Rattle.rules.specs.declared.terms.Terms.{Terms}
use Rattle.rules.specs.declared.tier.Tier.TheVariants.{Relative}
use Rattle.rules.specs.Quotes.{in_limits, uncrossed, quote_made}
use Rattle.rules.specs.Terms.{in_range, terms_made, terms_of}
use Rattle.rules.specs.Vienna.{vienna_meets}
use Rattle.calls.specs.declared.account_key.AccountKey.{AccountKey}
use Rattle.calls.specs.declared.call.Call.{Call}
use Rattle.calls.specs.declared.call.Call.TheVariants.{Enrol, Strike, Open, At, Close, Turn}
use Rattle.calls.specs.declared.change.Change.{Change}
use Rattle.calls.specs.declared.change.Change.TheVariants as change
use Rattle.calls.specs.declared.date.Date.{Date}
use Rattle.calls.specs.declared.phase.Phase.{Phase}
use Rattle.calls.specs.declared.phase.Phase.TheVariants.{Closed, Auction, Continuous, Interrupted}
use Rattle.calls.specs.Answers.{Answer, accepted, answer_of}
use Rattle.calls.specs.Keys.{instrument_in_range, key_in_range}
use Rattle.calls.specs.Calendar.{month_length, is_date, later, same_month}
use Rattle.calls.specs.Phases.{phase_of}
use Rattle.accounts.specs.declared.account.Account.{Account}
use Rattle.accounts.specs.Settings.{Setting, changed, obliged}
use Rattle.accounts.specs.Counting.{qualified, kept_day}
use Rattle.calls.specs.Calls.{stamp_in_range, flag_in_range}
use Rattle.accounts.specs.States.{Frame, State}
use Rattle.accounts.specs.Refusals.{account_of, enrolled, unturned, not_after, other_month, refusal}
use Rattle.accounts.specs.Steps.{Judgement, figures, statement, frame_after}
use Rattle.laws.specs.Examples.{conditions, narrow, wide}

abbrev pub key : ℕ → ℕ → AccountKey
key maker instrument = record { maker = maker; instrument = instrument }

abbrev pub date : ℕ → ℕ → ℕ → Date
date year month day = record { year = year; month = month; day = day }

abbrev pub setting : Phase → Bool → Bool → Option Quote → Setting
setting phase fast exempt quote = record { phase = phase; fast = fast; exempt = exempt; quote = quote }

-- Whether an account is obliged in a phase: with neither flag, exempt, in a fast market, and exempt in a fast market.
abbrev pub obliged_by_flags : Phase → Option Quote → List Bool
obliged_by_flags p q =
    obliged (setting p false false q) ∷ obliged (setting p false true q) ∷ obliged (setting p true false q) ∷ obliged (setting p true true q) ∷ []

-- Of the sixteen combinations of phase and flags just one obliges, whatever quote stands.
pub record ObligedInOneOfSixteen : Type 0 where
  pub closed : (q : Option Quote) → obliged_by_flags Closed q ≡ false ∷ false ∷ false ∷ false ∷ []
  pub auction : (q : Option Quote) → obliged_by_flags Auction q ≡ false ∷ false ∷ false ∷ false ∷ []
  pub continuous : (q : Option Quote) → obliged_by_flags Continuous q ≡ true ∷ false ∷ false ∷ false ∷ []
  pub interrupted : (q : Option Quote) → obliged_by_flags Interrupted q ≡ false ∷ false ∷ false ∷ false ∷ []

-- The numbers 0 to 3 name the four phases, and 4 names none.
pub record PhasesByNumber : Type 0 where
  pub named : map phase_of (0 ∷ 1 ∷ 2 ∷ 3 ∷ []) ≡ Some Closed ∷ Some Auction ∷ Some Continuous ∷ Some Interrupted ∷ []
  pub unnamed : phase_of 4 ≡ None

-- What a phase sets in its instrument, for every maker, and leaves in another; what every other change sets for maker 7 in
-- instrument 12, and what it sets or leaves for another maker and in another instrument.
pub record ChangesListed : Type 0 where
  pub phase_of_all_makers : (m i : ℕ) (s : Setting) → map (λ p. changed (change.Phase i p) (key m i) s) (0 ∷ 1 ∷ 2 ∷ 3 ∷ [])
      ≡ map (λ p. setting p s.fast s.exempt s.quote) (Closed ∷ Auction ∷ Continuous ∷ Interrupted ∷ [])
  pub phase_elsewhere : (m i j p : ℕ) (s : Setting) → i ≢ j → changed (change.Phase i p) (key m j) s ≡ s
  pub fast : (s : Setting) → changed (change.Fast 1) (key 7 12) s ≡ setting s.phase true s.exempt s.quote
  pub fast_ended : (s : Setting) → changed (change.Fast 0) (key 7 12) s ≡ setting s.phase false s.exempt s.quote
  pub fast_of_all : (s : Setting) → changed (change.Fast 1) (key 8 13) s ≡ setting s.phase true s.exempt s.quote
  pub exempt : (s : Setting) → changed (change.Exempt (key 7 12) 1) (key 7 12) s ≡ setting s.phase s.fast true s.quote
  pub exempt_ended : (s : Setting) → changed (change.Exempt (key 7 12) 0) (key 7 12) s ≡ setting s.phase s.fast false s.quote
  pub exempt_another : (s : Setting) → changed (change.Exempt (key 7 12) 1) (key 8 12) s ≡ s
  pub exempt_elsewhere : (s : Setting) → changed (change.Exempt (key 7 12) 1) (key 7 13) s ≡ s
  pub quote : (s : Setting) → changed (change.Quote (key 7 12) narrow) (key 7 12) s
      ≡ setting s.phase s.fast s.exempt (Some (quote_made narrow refl refl))
  pub quote_another : (s : Setting) → changed (change.Quote (key 7 12) narrow) (key 8 12) s ≡ s
  pub quote_elsewhere : (s : Setting) → changed (change.Quote (key 7 12) narrow) (key 7 13) s ≡ s
  pub withdrawn : (s : Setting) → changed (change.Withdraw (key 7 12)) (key 7 12) s ≡ setting s.phase s.fast s.exempt None
  pub withdrawn_another : (s : Setting) → changed (change.Withdraw (key 7 12)) (key 8 12) s ≡ s
  pub withdrawn_elsewhere : (s : Setting) → changed (change.Withdraw (key 7 12)) (key 7 13) s ≡ s

-- The quotes of the narrow and the wide sides, of which the first meets these terms.

abbrev pub narrow_quote : Quote
narrow_quote = quote_made narrow refl refl

abbrev pub wide_quote : Quote
wide_quote = quote_made wide refl refl

abbrev pub the_terms : Terms
the_terms = terms_made (conditions 7_000) Relative refl

abbrev pub qualifies : Phase → Bool → Bool → Option Quote → Bool
qualifies phase fast exempt quote = qualified vienna_meets the_terms (setting phase fast exempt quote)

-- An account qualifies only where it is obliged and a quote stands that meets its terms.
pub record QualifiedListed : Type 0 where
  pub not_obliged : map (λ p. qualifies p false false (Some narrow_quote)) (Closed ∷ Auction ∷ Interrupted ∷ []) ≡ false ∷ false ∷ false ∷ []
  pub in_a_fast_market : qualifies Continuous true false (Some narrow_quote) ≡ false
  pub exempted : qualifies Continuous false true (Some narrow_quote) ≡ false
  pub without_a_quote : qualifies Continuous false false None ≡ false
  pub too_wide : qualifies Continuous false false (Some wide_quote) ≡ false
  pub meeting : qualifies Continuous false false (Some narrow_quote) ≡ true

-- Whether a day of so much obliged and qualified time is kept under the threshold of 7,000 basis points.
abbrev pub kept_at_7000 : ℕ → ℕ → Bool
kept_at_7000 obliged qualified = kept_day the_terms (record { obliged = obliged; qualified = qualified })

-- A day without obliged time is not kept, one just at the threshold is, and one just below it is not.
pub record KeptDayEdges : Type 0 where
  pub nothing_obliged : kept_at_7000 0 0 ≡ false
  pub at_threshold : kept_at_7000 10 7 ≡ true
  pub below_threshold : kept_at_7000 10 6 ≡ false

-- Whether terms can be made of these numbers, and whether these sides are in their limits.

abbrev pub can_be_terms : ℕ → ℕ → ℕ → ℕ → ℕ → Bool
can_be_terms class tier limit minimum threshold =
    is_ok (terms_of (record { class = class; tier = tier; limit = limit; minimum = minimum; threshold = threshold }))

abbrev pub sides_in_limits : ℕ → ℕ → ℕ → ℕ → Bool
sides_in_limits bid ask bid_size ask_size = in_limits (record { bid = bid; ask = ask; bid_size = bid_size; ask_size = ask_size })

-- Of the number below a range, its two ends and the number above it.
abbrev pub ends_only : List Bool
ends_only = false ∷ true ∷ true ∷ false ∷ []

-- Both ends of each range are in it, and the numbers beside them are not.
pub record RangeEdges : Type 0 where
  pub makers : map (λ n. key_in_range (key n 1)) (0 ∷ 1 ∷ 65_535 ∷ 65_536 ∷ []) ≡ ends_only
  pub instruments : map (λ n. key_in_range (key 1 n)) (0 ∷ 1 ∷ 32 ∷ 33 ∷ []) ≡ ends_only
  pub instruments_alone : map instrument_in_range (0 ∷ 1 ∷ 32 ∷ 33 ∷ []) ≡ ends_only
  pub stamps : map stamp_in_range (0 ∷ 86_400_000 ∷ 86_400_001 ∷ []) ≡ true ∷ true ∷ false ∷ []
  pub flags : map flag_in_range (0 ∷ 1 ∷ 2 ∷ []) ≡ true ∷ true ∷ false ∷ []
  pub classes : map (λ n. can_be_terms n 0 1 1 1) (0 ∷ 1 ∷ 7 ∷ 8 ∷ []) ≡ ends_only
  pub tiers : map (λ n. can_be_terms 1 n 1 1 1) (0 ∷ 1 ∷ 2 ∷ 3 ∷ []) ≡ true ∷ true ∷ true ∷ false ∷ []
  pub limits : map (λ n. can_be_terms 1 0 n 1 1) (0 ∷ 1 ∷ 10_000 ∷ 10_001 ∷ []) ≡ ends_only
  pub minimums : map (λ n. can_be_terms 1 0 1 n 1) (0 ∷ 1 ∷ 4_000_000_000 ∷ 4_000_000_001 ∷ []) ≡ ends_only
  pub thresholds : map (λ n. can_be_terms 1 0 1 1 n) (0 ∷ 1 ∷ 10_000 ∷ 10_001 ∷ []) ≡ ends_only
  pub bids : map (λ n. sides_in_limits n 1 1 1) (0 ∷ 1 ∷ 1_000_000_000 ∷ 1_000_000_001 ∷ []) ≡ ends_only
  pub asks : map (λ n. sides_in_limits 1 n 1 1) (0 ∷ 1 ∷ 1_000_000_000 ∷ 1_000_000_001 ∷ []) ≡ ends_only
  pub bid_sizes : map (λ n. sides_in_limits 1 1 n 1) (0 ∷ 1 ∷ 10_000_000 ∷ 10_000_001 ∷ []) ≡ ends_only
  pub ask_sizes : map (λ n. sides_in_limits 1 1 1 n) (0 ∷ 1 ∷ 10_000_000 ∷ 10_000_001 ∷ []) ≡ ends_only

-- The lengths of months, the first and last dates and those beside them, which of two dates is later, which are of one month,
-- and how a date stands to the last one, where there is one.
pub record CalendarListed : Type 0 where
  pub months_of_2023 : map (month_length 2023) (1 ∷ 2 ∷ 3 ∷ 4 ∷ 5 ∷ 6 ∷ 7 ∷ 8 ∷ 9 ∷ 10 ∷ 11 ∷ 12 ∷ [])
      ≡ 31 ∷ 28 ∷ 31 ∷ 30 ∷ 31 ∷ 30 ∷ 31 ∷ 31 ∷ 30 ∷ 31 ∷ 30 ∷ 31 ∷ []
  pub februaries : map (λ y. month_length y 2) (2024 ∷ 1900 ∷ 2000 ∷ 2100 ∷ 2400 ∷ []) ≡ 29 ∷ 28 ∷ 29 ∷ 28 ∷ 29 ∷ []
  pub years : map (λ y. is_date (date y 12 31)) (0 ∷ 1 ∷ 9_999 ∷ 10_000 ∷ []) ≡ false ∷ true ∷ true ∷ false ∷ []
  pub months : map (λ m. is_date (date 2025 m 1)) (0 ∷ 1 ∷ 12 ∷ 13 ∷ []) ≡ false ∷ true ∷ true ∷ false ∷ []
  pub days : map (λ d. is_date (date 2023 2 d)) (0 ∷ 1 ∷ 28 ∷ 29 ∷ []) ≡ false ∷ true ∷ true ∷ false ∷ []
  pub later_by_a_day : later (date 2025 3 4) (date 2025 3 3) ≡ true
  pub later_by_a_month : later (date 2025 4 1) (date 2025 3 31) ≡ true
  pub later_by_a_year : later (date 2026 1 1) (date 2025 12 31) ≡ true
  pub earlier_by_a_day : later (date 2025 3 3) (date 2025 3 4) ≡ false
  pub earlier_by_a_month : later (date 2025 3 31) (date 2025 4 1) ≡ false
  pub earlier_by_a_year : later (date 2025 12 31) (date 2026 1 1) ≡ false
  pub not_later_than_itself : later (date 2025 3 3) (date 2025 3 3) ≡ false
  pub of_one_month : same_month (date 2025 3 31) (date 2025 3 3) ≡ true
  pub of_another_month : same_month (date 2025 4 3) (date 2025 3 3) ≡ false
  pub of_another_year : same_month (date 2026 3 3) (date 2025 3 3) ≡ false
  pub after_none : (d : Date) → not_after None d ≡ false
  pub after_the_last : map (not_after (Some (date 2025 3 3))) (date 2025 3 2 ∷ date 2025 3 3 ∷ date 2025 3 4 ∷ []) ≡ true ∷ true ∷ false ∷ []
  pub month_after_none : (d : Date) → other_month None d ≡ false
  pub month_after_the_last :
      map (other_month (Some (date 2025 3 3))) (date 2025 3 31 ∷ date 2025 4 3 ∷ date 2026 3 3 ∷ []) ≡ false ∷ true ∷ true ∷ []

-- The refusal of the first condition that holds, accepted where none does.
abbrev pub first_holding : List (Bool × Refusal) → Answer
first_holding [] = accepted
first_holding (c ∷ cs) = cond c.0 (Err c.1) (first_holding cs)

-- An account without obliged time in its month.
abbrev pub idle : Option Account → Bool
idle None = false
idle (Some a) = a.month.obliged == 0

-- Each kind of call is refused by the first condition that holds of one list, and so are figures and a statement, which otherwise
-- tell what the account holds.
pub record RefusalsInOrder (s : State) : Type 0 where
  pub enrol : (k : AccountKey) (t : Conditions) → refusal s (Enrol k t) ≡ first_holding (
      (not (key_in_range k), FieldOutOfRange)
      ∷ (not (in_range t), FieldOutOfRange)
      ∷ (nat_lt 2 t.tier, FieldOutOfRange)
      ∷ (s.frame.day_open, DayOpen)
      ∷ (enrolled k s.accounts, EnrolledAlready)
      ∷ (nat_le 128 (length s.accounts), TableFull)
      ∷ [])
  pub strike : (k : AccountKey) → refusal s (Strike k) ≡ first_holding (
      (not (key_in_range k), FieldOutOfRange)
      ∷ (s.frame.day_open, DayOpen)
      ∷ (not (enrolled k s.accounts), NotEnrolled)
      ∷ (unturned (account_of k s.accounts), DaysUnturned)
      ∷ [])
  pub open_day : (d : Date) → refusal s (Open d) ≡ first_holding (
      (not (is_date d), NoSuchDate)
      ∷ (s.frame.day_open, DayOpen)
      ∷ (not_after s.frame.last d, DateNotAfterLast)
      ∷ (nat_lt 0 s.frame.closed && other_month s.frame.last d, DaysUnturned)
      ∷ (nat_le 31 s.frame.closed, MonthFull)
      ∷ [])
  pub at_phase : (n i p : ℕ) → refusal s (At n (change.Phase i p)) ≡ first_holding (
      (not (stamp_in_range n), FieldOutOfRange)
      ∷ (not (instrument_in_range i), FieldOutOfRange)
      ∷ (nat_lt 3 p, FieldOutOfRange)
      ∷ (not s.frame.day_open, NoDayOpen)
      ∷ (nat_lt n s.frame.clock, StampBelowClock)
      ∷ [])
  pub at_fast : (n f : ℕ) → refusal s (At n (change.Fast f)) ≡ first_holding (
      (not (stamp_in_range n), FieldOutOfRange)
      ∷ (not (flag_in_range f), FieldOutOfRange)
      ∷ (not s.frame.day_open, NoDayOpen)
      ∷ (nat_lt n s.frame.clock, StampBelowClock)
      ∷ [])
  pub at_exempt : (n : ℕ) (k : AccountKey) (f : ℕ) → refusal s (At n (change.Exempt k f)) ≡ first_holding (
      (not (stamp_in_range n), FieldOutOfRange)
      ∷ (not (key_in_range k), FieldOutOfRange)
      ∷ (not (flag_in_range f), FieldOutOfRange)
      ∷ (not s.frame.day_open, NoDayOpen)
      ∷ (nat_lt n s.frame.clock, StampBelowClock)
      ∷ (not (enrolled k s.accounts), NotEnrolled)
      ∷ [])
  pub at_quote : (n : ℕ) (k : AccountKey) (x : Sides) → refusal s (At n (change.Quote k x)) ≡ first_holding (
      (not (stamp_in_range n), FieldOutOfRange)
      ∷ (not (key_in_range k), FieldOutOfRange)
      ∷ (not (in_limits x), QuoteOutOfLimits)
      ∷ (not (uncrossed x), BidNotBelowAsk)
      ∷ (not s.frame.day_open, NoDayOpen)
      ∷ (nat_lt n s.frame.clock, StampBelowClock)
      ∷ (not (enrolled k s.accounts), NotEnrolled)
      ∷ [])
  pub at_withdraw : (n : ℕ) (k : AccountKey) → refusal s (At n (change.Withdraw k)) ≡ first_holding (
      (not (stamp_in_range n), FieldOutOfRange)
      ∷ (not (key_in_range k), FieldOutOfRange)
      ∷ (not s.frame.day_open, NoDayOpen)
      ∷ (nat_lt n s.frame.clock, StampBelowClock)
      ∷ (not (enrolled k s.accounts), NotEnrolled)
      ∷ [])
  pub close_day : (n : ℕ) → refusal s (Close n) ≡ first_holding (
      (not (stamp_in_range n), FieldOutOfRange)
      ∷ (not s.frame.day_open, NoDayOpen)
      ∷ (nat_lt n s.frame.clock, StampBelowClock)
      ∷ [])
  pub turn : refusal s Turn ≡ first_holding ((s.frame.day_open, DayOpen) ∷ [])
  pub figures_refused : (k : AccountKey) → answer_of (figures s k) ≡ first_holding (
      (not (key_in_range k), FieldOutOfRange)
      ∷ (not (enrolled k s.accounts), NotEnrolled)
      ∷ [])
  pub figures_told : (k : AccountKey) (a : Account) → key_in_range k ≡ true → account_of k s.accounts ≡ Some a →
      figures s k ≡ Ok (record { today = a.today; month = a.month })
  pub statement_refused : (judge : Judgement) (k : AccountKey) → answer_of (statement judge s k) ≡ first_holding (
      (not (key_in_range k), FieldOutOfRange)
      ∷ (s.frame.day_open, DayOpen)
      ∷ (not (enrolled k s.accounts), NotEnrolled)
      ∷ (idle (account_of k s.accounts), NoObligedTime)
      ∷ [])
  pub statement_told : (judge : Judgement) (k : AccountKey) (a : Account) →
      key_in_range k ≡ true → s.frame.day_open ≡ false → account_of k s.accounts ≡ Some a → (a.month.obliged == 0) ≡ false →
      statement judge s k ≡ Ok (record { figures = record { today = a.today; month = a.month }; verdict = judge a.month a.terms.threshold })

-- A call of each kind, with a change at stamp n and a close at stamp m.
module _ (k : AccountKey) (t : Conditions) (d : Date) (n : ℕ) (c : Change) (m : ℕ) where
  abbrev pub each_call : List Call
  each_call = Enrol k t ∷ Strike k ∷ Open d ∷ At n c ∷ Close m ∷ Turn ∷ []

  -- What each kind of call leaves of a frame: its clock, its day, its last date, its closed days, its phases and its fast market.
  pub record FrameAfterEach (f : Frame) : Type 0 where
    pub clocks : map (λ x. (frame_after f x).clock) each_call ≡ f.clock ∷ f.clock ∷ 0 ∷ n ∷ m ∷ f.clock ∷ []
    pub days_open : map (λ x. (frame_after f x).day_open) each_call
        ≡ f.day_open ∷ f.day_open ∷ true ∷ f.day_open ∷ false ∷ f.day_open ∷ []
    pub last_dates : map (λ x. (frame_after f x).last) each_call ≡ f.last ∷ f.last ∷ Some d ∷ f.last ∷ f.last ∷ f.last ∷ []
    pub days_closed : map (λ x. (frame_after f x).closed) each_call ≡ f.closed ∷ f.closed ∷ f.closed ∷ f.closed ∷ (f.closed + 1) ∷ 0 ∷ []
    pub phases : (l : AccountKey) (s : Setting) → s.phase ≡ f.trading.phase l.instrument →
        map (λ x. (frame_after f x).trading.phase l.instrument) each_call
        ≡ s.phase ∷ s.phase ∷ Closed ∷ (changed c l s).phase ∷ s.phase ∷ s.phase ∷ []
    pub fast_markets : (l : AccountKey) (s : Setting) → s.fast ≡ f.trading.fast →
        map (λ x. (frame_after f x).trading.fast) each_call
        ≡ s.fast ∷ s.fast ∷ false ∷ (changed c l s).fast ∷ s.fast ∷ s.fast ∷ []

-- Whatever the frame and the calls.
abbrev pub FramesListed : Type 0
FramesListed = (k : AccountKey) (t : Conditions) (d : Date) (n : ℕ) (c : Change) (m : ℕ) (f : Frame) → FrameAfterEach k t d n c m f
