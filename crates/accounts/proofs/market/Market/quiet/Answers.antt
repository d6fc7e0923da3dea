use Rattle.std.proofs.Common.{false}
use Rattle.accounts.proofs.Phases.{phases_closed}
use Rattle.accounts.proofs.market.Market.quiet.Goals as goal

pub returns : goal.returns
returns c = λ i. record { phase = phases_closed i; fast = false }
