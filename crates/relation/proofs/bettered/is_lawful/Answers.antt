use Rattle.std.proofs.Common.{◌≡◌, true, Ok, Err, Result, sym, ◌∙◌, ap, rules}
use Rattle.std.specs.Result.{is_ok}
use Rattle.rules.specs.declared.quote.Quote.{Quote}
use Rattle.rules.specs.declared.refusal.Refusal.{Refusal}
use Rattle.rules.specs.declared.sides.Sides.{Sides}
use Rattle.rules.specs.Quotes.{quote_of, sides_of, QuoteAnswer}
use Rattle.rules.proofs.Made.{quote_is}
use Rattle.relation.proofs.bettered.is_lawful.Goals as goal

-- What makes a quote has the quote's sides.
made : (x : Sides) (r : Result Quote Refusal) → QuoteAnswer x r → is_ok r ≡ true → (q : Quote) × (sides_of q ≡ x)
made x (Ok q) same e = (q, same)
made x (Err f) refused e = search rules

pub returns : goal.returns
returns c =
    let r = c.try_from.ensures in (
      λ e. made c.args.given _ r.1 (sym c.is_ok.ensures.value ∙ e),
      λ q. c.is_ok.ensures.value ∙ ap is_ok (r.0 ∙ ap quote_of (sym q.1) ∙ sym (quote_is q.0)),
    )
