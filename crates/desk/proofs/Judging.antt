-- A better quote keeps meeting the terms that stand.
use Rattle.std.proofs.Common.{◌≡◌, Bool, true, false, Some, None, Ok, Option, Result, sym, refl, ap, ◌∙◌}
use Rattle.rules.specs.declared.quote.Quote.{Quote}
use Rattle.rules.specs.declared.terms.Terms.{Terms}
use Rattle.rules.specs.Quotes.{quote_of, sides_of}
use Rattle.rules.proofs.Made.{quote_is}
use Rattle.answers.specs.declared.fault.Fault.{Fault}
use Rattle.desk.specs.declared.answer.Answer.{Answer}
use Rattle.desk.specs.declared.answer.Answer.TheVariants.{Meets}
use Rattle.desk.specs.Answers.{told, quote_answer, BetterKeepsMeeting}

told_meets : (b : Bool) → ◌≡◌ {A = Result Answer Fault} (Ok (told b)) (Ok Meets) → b ≡ true
told_meets true e = refl
told_meets false e = let z : false ≡ true = cc in z

module _ (better : Quote → Quote → Bool) (meets : Quote → Terms → Bool) (upward : (p q : Quote) (t : Terms) → better q p ≡ true → meets p t ≡ true → meets q t ≡ true) where
  -- a quote's own sides are judged as the quote is
  as_quoted : (standing : Option Terms) (q : Quote) → quote_answer meets standing (quote_of (sides_of q)) ≡ quote_answer meets standing (Ok q)
  as_quoted standing q = ap (quote_answer meets standing) (sym (quote_is q))

  kept : (standing : Option Terms) (p q : Quote) → better q p ≡ true → quote_answer meets standing (Ok p) ≡ Ok Meets → quote_answer meets standing (Ok q) ≡ Ok Meets
  kept None p q b h = h
  kept (Some t) p q b h = ap (λ (x : Bool). Ok (told x)) (upward p q t b (told_meets (meets p t) h))

  pub better_keeps_meeting : BetterKeepsMeeting better meets
  better_keeps_meeting standing p q b h = as_quoted standing q ∙ kept standing p q b (sym (as_quoted standing p) ∙ h)
