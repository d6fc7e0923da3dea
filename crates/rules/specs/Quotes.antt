-- The quote of two given sides, or the refusal of them.
use Rattle.std.specs.Prelude.{◌≡◌, ℕ, ◌≤◌, Bool, true, false, ◌&&◌, ◌⊎◌, Ok, Err, Result, nat_lt, refl}
use Rattle.std.proofs.lemmas.Bool.{and_parts, ltb-true}
use Rattle.rules.specs.declared.refusal.Refusal.{Refusal}
use Rattle.rules.specs.declared.refusal.Refusal.TheVariants.{QuoteOutOfLimits, BidNotBelowAsk}
use Rattle.rules.specs.declared.sides.Sides.{Sides}
use Rattle.rules.specs.declared.quote.Quote.{Quote}
use Rattle.rules.specs.Ranges.{within, Within, within_says}
use Rattle.rules.specs.Refusals.{refusal_number}

abbrev pub price_in_limits : ℕ → Bool
price_in_limits = within 1 1_000_000_000

abbrev pub size_in_limits : ℕ → Bool
size_in_limits = within 1 10_000_000

abbrev pub in_limits : Sides → Bool
in_limits s = price_in_limits s.bid && (price_in_limits s.ask && (size_in_limits s.bid_size && size_in_limits s.ask_size))

abbrev pub uncrossed : Sides → Bool
uncrossed s = nat_lt s.bid s.ask

-- The quote of sides that pass both tests.
abbrev pub quote_made : (s : Sides) → in_limits s ≡ true → uncrossed s ≡ true → Quote
quote_made s limits order =
    let bid = and_parts (price_in_limits s.bid) (price_in_limits s.ask && (size_in_limits s.bid_size && size_in_limits s.ask_size)) limits in
    let ask = and_parts (price_in_limits s.ask) (size_in_limits s.bid_size && size_in_limits s.ask_size) bid.1 in
    let sizes = and_parts (size_in_limits s.bid_size) (size_in_limits s.ask_size) ask.1 in
    record {
      bid = s.bid;
      ask = s.ask;
      bid_size = s.bid_size;
      ask_size = s.ask_size;
      prices = ((within_says _ _ s.bid bid.0).0, ltb-true s.bid s.ask order, (within_says _ _ s.ask ask.0).1);
      bids = within_says _ _ s.bid_size sizes.0;
      asks = within_says _ _ s.ask_size sizes.1;
    }

-- By the two tests: the limits first, then the order of the prices.
abbrev pub quote_by : (s : Sides) (limits order : Bool) → in_limits s ≡ limits → uncrossed s ≡ order → Result Quote Refusal
quote_by s false order e f = Err QuoteOutOfLimits
quote_by s true false e f = Err BidNotBelowAsk
quote_by s true true e f = Ok (quote_made s e f)

abbrev pub quote_of : Sides → Result Quote Refusal
quote_of s = quote_by s (in_limits s) (uncrossed s) refl refl

-- The sides of a quote.
abbrev pub sides_of : Quote → Sides
sides_of q = record { bid = q.bid; ask = q.ask; bid_size = q.bid_size; ask_size = q.ask_size }

-- The same in plain words: a quote has the sides that were given; number 5 comes where a number is out of its limits,
-- number 6 where all are within them and the bid is not below the ask.
abbrev pub InLimits : Sides → Type 0
InLimits s =
    (Within 1 1_000_000_000 s.bid × Within 1 1_000_000_000 s.ask) × (Within 1 10_000_000 s.bid_size × Within 1 10_000_000 s.ask_size)

abbrev pub QuoteAnswer : Sides → Result Quote Refusal → Type 0
QuoteAnswer s (Ok q) = sides_of q ≡ s
QuoteAnswer s (Err e) = ((refusal_number e ≡ 5) × (InLimits s → ⊥)) ⊎ ((refusal_number e ≡ 6) × InLimits s × (s.ask ≤ s.bid))
