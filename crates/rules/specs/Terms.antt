-- The terms of given conditions, or the refusal of them.
use Rattle.std.specs.Prelude.{◌≡◌, ℕ, ◌≤◌, Bool, true, false, ◌&&◌, Some, None, Ok, Err, Option, Result, refl}
use Rattle.std.proofs.lemmas.Bool.{and_parts}
use Rattle.rules.specs.declared.refusal.Refusal.{Refusal}
use Rattle.rules.specs.declared.refusal.Refusal.TheVariants.{FieldOutOfRange}
use Rattle.rules.specs.declared.conditions.Conditions.{Conditions}
use Rattle.rules.specs.declared.terms.Terms.{Terms}
use Rattle.rules.specs.declared.tier.Tier.{Tier}
use Rattle.rules.specs.Ranges.{within, Within, within_says}
use Rattle.rules.specs.Refusals.{refusal_number}
use Rattle.rules.specs.Tiers.{tier_number, tier_of}

abbrev pub class_in_range : ℕ → Bool
class_in_range = within 1 7

abbrev pub minimum_in_range : ℕ → Bool
minimum_in_range = within 1 4_000_000_000

-- of limit and threshold
abbrev pub points_in_range : ℕ → Bool
points_in_range = within 1 10_000

abbrev pub in_range : Conditions → Bool
in_range c = class_in_range c.class && (points_in_range c.limit && (minimum_in_range c.minimum && points_in_range c.threshold))

-- The terms of conditions that are in range, with the tier that their number names.
abbrev pub terms_made : (c : Conditions) → Tier → in_range c ≡ true → Terms
terms_made c tier ranges =
    let class = and_parts (class_in_range c.class) (points_in_range c.limit && (minimum_in_range c.minimum && points_in_range c.threshold)) ranges in
    let limit = and_parts (points_in_range c.limit) (minimum_in_range c.minimum && points_in_range c.threshold) class.1 in
    let others = and_parts (minimum_in_range c.minimum) (points_in_range c.threshold) limit.1 in
    record {
      class = c.class;
      tier = tier;
      limit = c.limit;
      minimum = c.minimum;
      threshold = c.threshold;
      classes = within_says _ _ c.class class.0;
      limits = within_says _ _ c.limit limit.0;
      minimums = within_says _ _ c.minimum others.0;
      thresholds = within_says _ _ c.threshold others.1;
    }

-- By the ranges and the tier's number.
abbrev pub terms_by : (c : Conditions) (ranges : Bool) → Option Tier → in_range c ≡ ranges → Result Terms Refusal
terms_by c false tier e = Err FieldOutOfRange
terms_by c true None e = Err FieldOutOfRange
terms_by c true (Some tier) e = Ok (terms_made c tier e)

abbrev pub terms_of : Conditions → Result Terms Refusal
terms_of c = terms_by c (in_range c) (tier_of c.tier) refl

-- The numbers of terms.
abbrev pub conditions_of : Terms → Conditions
conditions_of t = record { class = t.class; tier = tier_number t.tier; limit = t.limit; minimum = t.minimum; threshold = t.threshold }

-- The same in plain words: terms have the numbers that were given, and number 4 comes where one is out of its range.
abbrev pub InRange : Conditions → Type 0
InRange c =
    Within 1 7 c.class × (c.tier ≤ 2) × Within 1 10_000 c.limit × Within 1 4_000_000_000 c.minimum × Within 1 10_000 c.threshold

abbrev pub TermsAnswer : Conditions → Result Terms Refusal → Type 0
TermsAnswer c (Ok t) = conditions_of t ≡ c
TermsAnswer c (Err e) = (refusal_number e ≡ 4) × (InRange c → ⊥)
