use Rattle.std.proofs.Common.{refl}
use Rattle.rules.proofs.Made.{quote_is}
use Rattle.rules.proofs.quote.make.QuoteTryFromSides.try_from.Goals as goal

pub returns : goal.returns
returns c = (quote_is _, refl)
