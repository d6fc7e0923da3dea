-- Which quote is better than which, read in plain order.
use Rattle.std.specs.Prelude.{Decides}
use Rattle.rules.specs.declared.quote.Quote.{Quote}
use Rattle.rules.specs.Vienna.{vienna_better, BetterVienna}
use Rattle.rules.specs.Zagreb.{zagreb_better, BetterZagreb}
use Rattle.rules.specs.Beta.{beta_better, BetterBeta}

pub record BetterReadsPlainly : Type 0 where
  pub vienna : (q p : Quote) → Decides (vienna_better q p) (BetterVienna q p)
  pub zagreb : (q p : Quote) → Decides (zagreb_better q p) (BetterZagreb q p)
  pub beta : (q p : Quote) → Decides (beta_better q p) (BetterBeta q p)
