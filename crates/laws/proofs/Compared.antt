-- The laws, told of what two runs come to.
use Rattle.std.proofs.Common.{◌≡◌, ℕ, true, sym}
use Rattle.rules.specs.declared.month_figures.MonthFigures.{MonthFigures}
use Rattle.rules.specs.declared.quote.Quote.{Quote}
use Rattle.rules.specs.declared.terms.Terms.{Terms}
use Rattle.rules.specs.declared.verdict.Verdict.TheVariants.{Kept}
use Rattle.rules.specs.Months.{NoWorse}
use Rattle.laws.specs.Runs.{Outcome, Ran}
use Rattle.laws.specs.Exchange.{OrderNeverMatters}
use Rattle.laws.specs.Tighter.{TighterNeverCosts}
use Rattle.laws.specs.Milliseconds.{MillisecondsTell}
use Rattle.laws.specs.Laws.{LawsHold}
use Rattle.laws.proofs.Tighter.{tighter_never_costs}
use Rattle.laws.proofs.Exchange.{order_never_matters}
use Rattle.laws.proofs.Milliseconds.{milliseconds_tell}

time_told : (o : Outcome) → Ran o → MillisecondsTell o.meets o.judge o.calls o.answers o.left
time_told o r = rw (r.answered, r.left) (milliseconds_tell o.meets o.judge o.calls)

module _ (one two : Outcome) (first : Ran one) (second : Ran two) (alike : one.meets ≡ two.meets) where
  tighter_told :
      ((p q : Quote) (t : Terms) → one.better q p ≡ true → one.meets p t ≡ true → one.meets q t ≡ true) →
      ((f g : MonthFigures) (threshold : ℕ) → NoWorse g f → one.judge f threshold ≡ Kept → one.judge g threshold ≡ Kept) →
      TighterNeverCosts one.better one.judge one.calls two.calls one.answers two.answers one.left two.left
  tighter_told upward law =
      rw (first.answered, first.left, second.answered, second.left, sym alike)
      (tighter_never_costs one.meets one.better one.judge upward law one.calls two.calls)

  order_told : OrderNeverMatters one.judge one.calls two.calls one.answers two.answers one.left two.left
  order_told ns may e =
      rw (first.answered, first.left, second.answered, second.left, sym alike, e) (order_never_matters one.meets one.judge ns one.calls may)

pub laws_hold : (one two : Outcome) → Ran one → Ran two →
    ((p q : Quote) (t : Terms) → one.better q p ≡ true → one.meets p t ≡ true → one.meets q t ≡ true) →
    ((f g : MonthFigures) (threshold : ℕ) → NoWorse g f → one.judge f threshold ≡ Kept → one.judge g threshold ≡ Kept) →
    LawsHold one two
laws_hold one two first second upward law = record {
  tighter = λ e f. tighter_told one two first second e upward law;
  order = λ e f. order_told one two first second e;
  first_time = time_told one first;
  second_time = time_told two second;
}
