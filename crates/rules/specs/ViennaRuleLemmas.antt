-- Under each tier, a better quote is as narrow as Vienna asks.
use Rattle.std.proofs.Common.{le_trans}
use Rattle.rules.specs.declared.quote.Quote.{Quote}
use Rattle.rules.specs.declared.terms.Terms.{Terms}
use Rattle.rules.specs.declared.tier.Tier.{Tier}
use Rattle.rules.specs.declared.tier.Tier.TheVariants.{Relative, Stagnating, Fixed}
use Rattle.rules.specs.Spreads.{Inside}
use Rattle.rules.specs.Vienna.{NarrowAt, of_class, relative_spreads}
use Rattle.rules.specs.SpreadsLemmas.{narrower, keeps_within}

pub keeps_narrow : (tier : Tier) (p q : Quote) (t : Terms) → Inside q p → NarrowAt tier p t → NarrowAt tier q t
keeps_narrow Relative p q t i h = keeps_within (of_class relative_spreads t) p q i h
keeps_narrow Stagnating p q t i h = le_trans (narrower p q i) h
keeps_narrow Fixed p q t i h = le_trans (narrower p q i) h
