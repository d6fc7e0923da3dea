-- What the desk answers, in which words, and which terms stand then.
use Rattle.std.specs.Prelude.{◌≡◌, ℕ, Bool, true, false, List, Some, None, Ok, Err, codes, Option, Result}
use Rattle.rules.specs.declared.quote.Quote.{Quote}
use Rattle.rules.specs.declared.terms.Terms.{Terms}
use Rattle.rules.specs.declared.refusal.Refusal.{Refusal}
use Rattle.rules.specs.Quotes.{quote_of, sides_of}
use Rattle.rules.specs.Terms.{terms_of}
use Rattle.answers.specs.declared.fault.Fault.{Fault}
use Rattle.answers.specs.declared.fault.Fault.TheVariants.{Unreadable, Refused}
use Rattle.desk.specs.declared.request.Request.{Request}
use Rattle.desk.specs.declared.request.Request.TheVariants as request
use Rattle.desk.specs.declared.answer.Answer.{Answer}
use Rattle.desk.specs.declared.answer.Answer.TheVariants.{Accepted, Meets, DoesNotMeet}
use Rattle.desk.specs.declared.tally.Tally.{Tally}
use Rattle.desk.specs.Tallies.{counted}

abbrev pub answer_text : Answer → List ℕ
answer_text Accepted = codes "accepted"
answer_text Meets = codes "meets"
answer_text DoesNotMeet = codes "does not meet"

-- The answer to terms: accepted, or refused.
abbrev pub terms_answer : Result Terms Refusal → Result Answer Fault
terms_answer (Ok t) = Ok Accepted
terms_answer (Err e) = Err (Refused e)

-- The answer to a quote: judged against the terms that stand, or refused; unreadable where none stand.
abbrev pub told : Bool → Answer
told true = Meets
told false = DoesNotMeet

abbrev pub quote_answer : (Quote → Terms → Bool) → Option Terms → Result Quote Refusal → Result Answer Fault
quote_answer meets None q = Err Unreadable
quote_answer meets (Some t) (Ok q) = Ok (told (meets q t))
quote_answer meets (Some t) (Err e) = Err (Refused e)

abbrev pub answer_to : (Quote → Terms → Bool) → Option Terms → Request → Result Answer Fault
answer_to meets standing (request.Terms given) = terms_answer (terms_of given)
answer_to meets standing (request.Quote sides) = quote_answer meets standing (quote_of sides)

-- The terms that stand after a request: new ones where they are accepted, and else those that stood.
abbrev pub replaced : Option Terms → Result Terms Refusal → Option Terms
replaced standing (Ok t) = Some t
replaced standing (Err e) = standing

abbrev pub standing_after : Option Terms → Request → Option Terms
standing_after standing (request.Terms given) = replaced standing (terms_of given)
standing_after standing (request.Quote sides) = standing

-- Only what is answered is counted.
abbrev pub tallied : Tally → Result Answer Fault → Tally
tallied t (Ok answer) = counted t answer
tallied t (Err e) = t

-- Whatever terms stand, a quote that is better than one that meets them meets them too.
abbrev pub BetterKeepsMeeting : (Quote → Quote → Bool) → (Quote → Terms → Bool) → Type 0
BetterKeepsMeeting better meets =
    (standing : Option Terms) (p q : Quote) → better q p ≡ true
    → answer_to meets standing (request.Quote (sides_of p)) ≡ Ok Meets → answer_to meets standing (request.Quote (sides_of q)) ≡ Ok Meets
