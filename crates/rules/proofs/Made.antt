-- A quote is the quote of its own sides, and terms are the terms of their own numbers.
use Rattle.std.proofs.Common.{◌≡◌, ℕ, ◌≤◌, Bool, true, false, Some, Ok, Option, ok_or, refl, ap, ◌∙◌, arith}
use native.Mathlib.Bridge.{le_prop}
use Rattle.std.proofs.lemmas.Bool.{both_ways, and_from, le-leb, lt-ltb}
use Rattle.std.proofs.lemmas.Bool.Decides.{nat_tests}
use Rattle.rules.specs.declared.quote.Quote.{Quote}
use Rattle.rules.specs.declared.refusal.Refusal.TheVariants.{FieldOutOfRange}
use Rattle.rules.specs.declared.terms.Terms.{Terms}
use Rattle.rules.specs.declared.tier.Tier.{Tier}
use Rattle.rules.specs.declared.tier.Tier.TheVariants.{Relative, Stagnating, Fixed}
use Rattle.rules.specs.Ranges.{within, Within}
use Rattle.rules.specs.Quotes.{in_limits, uncrossed, quote_made, quote_by, quote_of, sides_of}
use Rattle.rules.specs.Tiers.{tier_number, tier_of}
use Rattle.rules.specs.Terms.{in_range, terms_made, terms_by, terms_of, conditions_of}

within_from : (low high n : ℕ) → Within low high n → within low high n ≡ true
within_from low high n h = and_from _ _ (le-leb low n h.0) (le-leb n high h.1)

within_prop : (low high n : ℕ) (h k : Within low high n) → h ≡ k
within_prop low high n h k = λ i. (le_prop h.0 k.0 i, le_prop h.1 k.1 i)

limits_hold : (q : Quote) → in_limits (sides_of q) ≡ true
limits_hold q =
    let low : q.bid ≤ 1_000_000_000 = omega (arith, q.prices.1, q.prices.2) in
    let high : 1 ≤ q.ask = omega (arith, q.prices.0, q.prices.1) in
    and_from _ _ (within_from _ _ q.bid (q.prices.0, low))
    (and_from _ _ (within_from _ _ q.ask (high, q.prices.2))
    (and_from _ _ (within_from _ _ q.bid_size q.bids) (within_from _ _ q.ask_size q.asks)))

order_holds : (q : Quote) → uncrossed (sides_of q) ≡ true
order_holds q = lt-ltb q.bid q.ask q.prices.1

quote_by_is : (q : Quote) (limits order : Bool) (e : in_limits (sides_of q) ≡ limits) (f : uncrossed (sides_of q) ≡ order) → Ok q ≡ quote_by (sides_of q) limits order e f
quote_by_is q false order e f = absurd (both_ways _ e (limits_hold q))
quote_by_is q true false e f = absurd (both_ways _ f (order_holds q))
quote_by_is q true true e f =
    let made : Quote = quote_made (sides_of q) e f in
    λ i. Ok (record {
      bid = q.bid;
      ask = q.ask;
      bid_size = q.bid_size;
      ask_size = q.ask_size;
      prices = (le_prop q.prices.0 made.prices.0 i, le_prop q.prices.1 made.prices.1 i, le_prop q.prices.2 made.prices.2 i);
      bids = within_prop _ _ q.bid_size q.bids made.bids i;
      asks = within_prop _ _ q.ask_size q.asks made.asks i;
    })

pub quote_is : (q : Quote) → Ok q ≡ quote_of (sides_of q)
quote_is q = quote_by_is q (in_limits (sides_of q)) (uncrossed (sides_of q)) refl refl

-- The number of a tier names it, and no other does.
tier_is : (t : Tier) → Some t ≡ tier_of (tier_number t)
tier_is Relative = refl
tier_is Stagnating = refl
tier_is Fixed = refl

pub tier_numbered : (n : ℕ) (t : Tier) → Ok t ≡ ok_or (tier_of n) FieldOutOfRange → tier_number t ≡ n
tier_numbered n t e = grind (arith, nat_tests)

ranges_hold : (t : Terms) → in_range (conditions_of t) ≡ true
ranges_hold t =
    and_from _ _ (within_from _ _ t.class t.classes)
    (and_from _ _ (within_from _ _ t.limit t.limits)
    (and_from _ _ (within_from _ _ t.minimum t.minimums) (within_from _ _ t.threshold t.thresholds)))

terms_by_is : (t : Terms) (ranges : Bool) (e : in_range (conditions_of t) ≡ ranges) → Ok t ≡ terms_by (conditions_of t) ranges (Some t.tier) e
terms_by_is t false e = absurd (both_ways _ e (ranges_hold t))
terms_by_is t true e =
    let made : Terms = terms_made (conditions_of t) t.tier e in
    λ i. Ok (record {
      class = t.class;
      tier = t.tier;
      limit = t.limit;
      minimum = t.minimum;
      threshold = t.threshold;
      classes = within_prop _ _ t.class t.classes made.classes i;
      limits = within_prop _ _ t.limit t.limits made.limits i;
      minimums = within_prop _ _ t.minimum t.minimums made.minimums i;
      thresholds = within_prop _ _ t.threshold t.thresholds made.thresholds i;
    })

pub terms_is : (t : Terms) → Ok t ≡ terms_of (conditions_of t)
terms_is t =
    terms_by_is t (in_range (conditions_of t)) refl ∙ ap (λ (o : Option Tier). terms_by (conditions_of t) (in_range (conditions_of t)) o refl) (tier_is t.tier)
