use Rattle.laws.proofs.Listing.{refusals_in_order}
use Rattle.laws.proofs.statements.listings_agree.Goals as goal

pub returns-clause-refusals : goal.returns-clause-refusals
returns-clause-refusals c = refusals_in_order
