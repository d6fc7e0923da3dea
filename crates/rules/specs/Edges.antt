-- The edges of the rules, from their definitions. A case speaks of every quote and all terms, or of all figures, that
-- have the numbers it names and meet what it does not name; and such a quote, such terms and such figures exist.
use Rattle.std.specs.Prelude.{◌≡◌, ℕ, Bool, true, false}
use Rattle.rules.specs.declared.quote.Quote.{Quote}
use Rattle.rules.specs.declared.terms.Terms.{Terms}
use Rattle.rules.specs.declared.tier.Tier.{Tier}
use Rattle.rules.specs.declared.tier.Tier.TheVariants.{Relative, Stagnating}
use Rattle.rules.specs.declared.month_figures.MonthFigures.{MonthFigures}
use Rattle.rules.specs.declared.verdict.Verdict.{Verdict}
use Rattle.rules.specs.declared.verdict.Verdict.TheVariants.{Kept, Breach}
use Rattle.rules.specs.Vienna.{vienna_meets, vienna_large}
use Rattle.rules.specs.Zagreb.{zagreb_meets}
use Rattle.rules.specs.Beta.{beta_meets, beta_narrow, beta_large}
use Rattle.rules.specs.Months.{majority_verdict}

-- Each quote and all terms of the case get the answer, and there are some.
abbrev pub Case : (Quote → Terms → Bool) → (Quote → Terms → Type 0) → Bool → Type 0
Case meets named answer = ((q : Quote) (t : Terms) → named q t → meets q t ≡ answer) × ((q : Quote) × (t : Terms) × named q t)

abbrev pub Priced : ℕ → ℕ → Quote → Type 0
Priced bid ask q = (q.bid ≡ bid) × (q.ask ≡ ask)

abbrev pub Sized : ℕ → ℕ → Quote → Type 0
Sized bid_size ask_size q = (q.bid_size ≡ bid_size) × (q.ask_size ≡ ask_size)

-- Vienna, by class, tier and prices; the sizes are large enough.
abbrev pub ViennaCase : ℕ → Tier → ℕ → ℕ → Bool → Type 0
ViennaCase class tier bid ask = Case vienna_meets (λ q t. (t.class ≡ class) × (t.tier ≡ tier) × Priced bid ask q × (vienna_large q t ≡ true))

-- BETa, by limit and prices; the sizes are large enough and near enough.
abbrev pub BetaPrices : ℕ → ℕ → ℕ → Bool → Type 0
BetaPrices limit bid ask = Case beta_meets (λ q t. (t.limit ≡ limit) × Priced bid ask q × (beta_large q t ≡ true))

-- BETa, by minimum and sizes; the spread is narrow enough.
abbrev pub BetaSizes : ℕ → ℕ → ℕ → Bool → Type 0
BetaSizes minimum bid_size ask_size = Case beta_meets (λ q t. (t.minimum ≡ minimum) × Sized bid_size ask_size q × (beta_narrow q t ≡ true))

-- Zagreb, by limit, minimum, prices and sizes.
abbrev pub ZagrebCase : ℕ → ℕ → ℕ → ℕ → ℕ → ℕ → Bool → Type 0
ZagrebCase limit minimum bid ask bid_size ask_size =
    Case zagreb_meets (λ q t. (t.limit ≡ limit) × (t.minimum ≡ minimum) × Priced bid ask q × Sized bid_size ask_size q)

-- Majority, by kept days and days.
abbrev pub MajorityCase : ℕ → ℕ → Verdict → Type 0
MajorityCase kept_days days verdict =
    ((f : MonthFigures) (threshold : ℕ) → (f.kept_days ≡ kept_days) × (f.days ≡ days) → majority_verdict f threshold ≡ verdict)
    × ((f : MonthFigures) × (f.kept_days ≡ kept_days) × (f.days ≡ days))

pub record EdgesHold : Type 0 where
  pub vienna_relative_meets : ViennaCase 1 Relative 100_000 100_750 true
  pub vienna_relative_fails : ViennaCase 1 Relative 100_000 100_751 false
  pub vienna_stagnating_meets : ViennaCase 5 Stagnating 40_000 41_500 true
  pub vienna_stagnating_fails : ViennaCase 5 Stagnating 40_000 41_501 false
  pub beta_spread_meets : BetaPrices 200 9_900 10_100 true
  pub beta_spread_fails : BetaPrices 200 9_900 10_101 false
  pub beta_sizes_meet : BetaSizes 100 100 200 true
  pub beta_sizes_fail : BetaSizes 100 100 201 false
  pub zagreb_meets_at : ZagrebCase 100 100_000_000 1_000_000 1_010_000 100 100 true
  pub zagreb_fails_below : ZagrebCase 100 100_000_000 1_000_000 1_010_000 99 100 false
  pub majority_kept : MajorityCase 3 5 Kept
  pub majority_breach : MajorityCase 2 4 Breach
