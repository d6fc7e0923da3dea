-- The flat lists of refusals, by cases.
use Rattle.std.proofs.Common.{◌≡◌, ℕ, Bool, true, false, cond, not, ◌&&◌, eqb, ltb, is_some, Some, None, Ok, Err, Option, refl, arith}
use Rattle.std.proofs.lemmas.Bool.Decides.{nat_tests}
use Rattle.rules.specs.declared.conditions.Conditions.{Conditions}
use Rattle.rules.specs.declared.refusal.Refusal.{Refusal}
use Rattle.rules.specs.declared.refusal.Refusal.TheVariants.{FieldOutOfRange, QuoteOutOfLimits, BidNotBelowAsk, DayOpen, NotEnrolled, NoObligedTime}
use Rattle.rules.specs.declared.sides.Sides.{Sides}
use Rattle.rules.specs.declared.tier.Tier.{Tier}
use Rattle.rules.specs.Quotes.{in_limits, uncrossed, quote_by}
use Rattle.rules.specs.Terms.{in_range, terms_by}
use Rattle.rules.specs.Tiers.{tier_of}
use Rattle.calls.specs.Answers.{Answer, accepted, when, first_of, answer_of}
use Rattle.calls.specs.Phases.{phase_of}
use Rattle.calls.specs.Keys.{instrument_in_range, key_in_range}
use Rattle.calls.specs.Calls.{stamp_in_range}
use Rattle.accounts.specs.declared.account.Account.{Account}
use Rattle.accounts.specs.declared.statement.Statement.{Statement}
use Rattle.accounts.specs.States.{State}
use Rattle.accounts.specs.Refusals.{account_of}
use Rattle.accounts.specs.Steps.{Judgement, told, stated}
use Rattle.laws.specs.Listing.{idle, RefusalsInOrder}

-- A condition in front of a second answer, one of two tests taken apart, and a choice read as a condition.

first_of_when : (b : Bool) (e : Refusal) (x y : Answer) → first_of (when b e x) y ≡ when b e (first_of x y)
first_of_when true e x y = refl
first_of_when false e x y = refl

when_not_both : (a b : Bool) (e : Refusal) (x : Answer) → when (not (a && b)) e x ≡ when (not a) e (when (not b) e x)
when_not_both true b e x = refl
when_not_both false b e x = refl

cond_is_when : (b : Bool) (e : Refusal) (x : Answer) → cond b (Err e) x ≡ when b e x
cond_is_when true e x = refl
cond_is_when false e x = refl

-- Numbers that name nothing.

no_phase : (n : ℕ) → not (is_some (phase_of n)) ≡ ltb 3 n
no_phase n = grind (arith, nat_tests)

no_tier : (n : ℕ) → not (is_some (tier_of n)) ≡ ltb 2 n
no_tier n = grind (arith, nat_tests)

-- Conditions and sides of which nothing can be made.

terms_refused : (c : Conditions) (ranges : Bool) (tier : Option Tier) (e : in_range c ≡ ranges) →
    answer_of (terms_by c ranges tier e) ≡ when (not ranges) FieldOutOfRange (when (not (is_some tier)) FieldOutOfRange accepted)
terms_refused c true (Some tier) e = refl
terms_refused c true None e = refl
terms_refused c false tier e = refl

sides_refused : (x : Sides) (limits order : Bool) (e : in_limits x ≡ limits) (f : uncrossed x ≡ order) →
    answer_of (quote_by x limits order e f) ≡ when (not limits) QuoteOutOfLimits (when (not order) BidNotBelowAsk accepted)
sides_refused x true true e f = refl
sides_refused x true false e f = refl
sides_refused x false order e f = refl

-- What figures and a statement answer, by the range of the key, the day and the account.

figures_by : (ranges : Bool) (a : Option Account) →
    answer_of (cond ranges (told a) (Err FieldOutOfRange)) ≡ when (not ranges) FieldOutOfRange (when (not (is_some a)) NotEnrolled accepted)
figures_by true (Some a) = refl
figures_by true None = refl
figures_by false a = refl

idle_by : (nothing : Bool) (x : Statement) →
    answer_of (cond nothing (Err NoObligedTime) (Ok x)) ≡ when nothing NoObligedTime accepted
idle_by true x = refl
idle_by false x = refl

statement_by : (judge : Judgement) (ranges opened : Bool) (a : Option Account) →
    answer_of (cond ranges (cond opened (Err DayOpen) (stated judge a)) (Err FieldOutOfRange))
    ≡ when (not ranges) FieldOutOfRange (when opened DayOpen (when (not (is_some a)) NotEnrolled (when (idle a) NoObligedTime accepted)))
statement_by judge true true a = refl
statement_by judge true false (Some a) = idle_by (eqb a.month.obliged 0) _
statement_by judge true false None = refl
statement_by judge false opened a = refl

pub refusals_in_order : (s : State) → RefusalsInOrder s
refusals_in_order s = record {
  enrol = λ k t. rw (terms_refused t, no_tier t.tier) (simp (first_of_when, cond_is_when));
  strike = λ k. simp (first_of_when, cond_is_when);
  open_day = λ d. simp (first_of_when, cond_is_when);
  at_phase = λ n i p. rw (when_not_both (stamp_in_range n), when_not_both (instrument_in_range i), no_phase p) (simp (first_of_when, cond_is_when));
  at_fast = λ n f. rw (when_not_both (stamp_in_range n)) (simp (first_of_when, cond_is_when));
  at_exempt = λ n k f. rw (when_not_both (stamp_in_range n), when_not_both (key_in_range k)) (simp (first_of_when, cond_is_when));
  at_quote = λ n k x. rw (when_not_both (stamp_in_range n), sides_refused x) (simp (first_of_when, cond_is_when));
  at_withdraw = λ n k. rw (when_not_both (stamp_in_range n)) (simp (first_of_when, cond_is_when));
  close_day = λ n. simp (first_of_when, cond_is_when);
  turn = simp (first_of_when, cond_is_when);
  figures_refused = λ k. rw (figures_by (key_in_range k) (account_of k s.accounts)) (simp (cond_is_when));
  figures_told = λ k a e f. rw (e, f) refl;
  statement_refused = λ judge k. rw (statement_by judge (key_in_range k) s.frame.day_open (account_of k s.accounts)) (simp (cond_is_when));
  statement_told = λ judge k a e f g h. rw (e, f, g, h) refl;
}
