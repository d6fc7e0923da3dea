-- The edges hold, each for every quote and all terms of its numbers, and each with a quote and terms that have them.
use Rattle.std.proofs.Common.{ℕ, refl, arith}
use Rattle.std.proofs.lemmas.Bool.Decides.{nat_tests}
use Rattle.rules.specs.declared.sides.Sides.{Sides}
use Rattle.rules.specs.declared.conditions.Conditions.{Conditions}
use Rattle.rules.specs.declared.tier.Tier.TheVariants.{Relative, Stagnating}
use Rattle.rules.specs.declared.month_figures.MonthFigures.{MonthFigures}
use Rattle.rules.specs.Quotes.{quote_made}
use Rattle.rules.specs.Terms.{terms_made}
use Rattle.rules.specs.Edges.{EdgesHold}

abbrev sides : ℕ → ℕ → ℕ → ℕ → Sides
sides bid ask bid_size ask_size = record { bid = bid; ask = ask; bid_size = bid_size; ask_size = ask_size }

abbrev conditions : ℕ → ℕ → ℕ → Conditions
conditions class limit minimum = record { class = class; tier = 0; limit = limit; minimum = minimum; threshold = 1 }

abbrev month : ℕ → ℕ → MonthFigures
month kept days = record { obliged = 0; qualified = 0; days = days; kept_days = kept }

pub edges_hold : EdgesHold
edges_hold = record {
  vienna_relative_meets = (λ q t h. grind (arith, nat_tests), (quote_made (sides 100_000 100_750 1 1) refl refl, terms_made (conditions 1 1 1) Relative refl, (refl, refl, (refl, refl), refl)));
  vienna_relative_fails = (λ q t h. grind (arith, nat_tests), (quote_made (sides 100_000 100_751 1 1) refl refl, terms_made (conditions 1 1 1) Relative refl, (refl, refl, (refl, refl), refl)));
  vienna_stagnating_meets = (λ q t h. grind (arith, nat_tests), (quote_made (sides 40_000 41_500 1 1) refl refl, terms_made (conditions 5 1 1) Stagnating refl, (refl, refl, (refl, refl), refl)));
  vienna_stagnating_fails = (λ q t h. grind (arith, nat_tests), (quote_made (sides 40_000 41_501 1 1) refl refl, terms_made (conditions 5 1 1) Stagnating refl, (refl, refl, (refl, refl), refl)));
  beta_spread_meets = (λ q t h. grind (arith, nat_tests), (quote_made (sides 9_900 10_100 1 1) refl refl, terms_made (conditions 1 200 1) Relative refl, (refl, (refl, refl), refl)));
  beta_spread_fails = (λ q t h. grind (arith, nat_tests), (quote_made (sides 9_900 10_101 1 1) refl refl, terms_made (conditions 1 200 1) Relative refl, (refl, (refl, refl), refl)));
  beta_sizes_meet = (λ q t h. grind (arith, nat_tests), (quote_made (sides 9_900 10_100 100 200) refl refl, terms_made (conditions 1 200 100) Relative refl, (refl, (refl, refl), refl)));
  beta_sizes_fail = (λ q t h. grind (arith, nat_tests), (quote_made (sides 9_900 10_100 100 201) refl refl, terms_made (conditions 1 200 100) Relative refl, (refl, (refl, refl), refl)));
  zagreb_meets_at = (λ q t h. grind (arith, nat_tests), (quote_made (sides 1_000_000 1_010_000 100 100) refl refl, terms_made (conditions 1 100 100_000_000) Relative refl, (refl, refl, (refl, refl), (refl, refl))));
  zagreb_fails_below = (λ q t h. grind (arith, nat_tests), (quote_made (sides 1_000_000 1_010_000 99 100) refl refl, terms_made (conditions 1 100 100_000_000) Relative refl, (refl, refl, (refl, refl), (refl, refl))));
  majority_kept = (λ f n h. grind (arith, nat_tests), (month 3 5, refl, refl));
  majority_breach = (λ f n h. grind (arith, nat_tests), (month 2 4, refl, refl));
}
