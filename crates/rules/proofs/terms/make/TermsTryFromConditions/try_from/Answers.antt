use Rattle.std.proofs.Common.{◌≡◌, ap, ◌∙◌, rules}
use Rattle.rules.specs.Terms.{terms_of}
use Rattle.rules.specs.Tiers.{tier_number}
use Rattle.rules.specs.declared.conditions.Conditions.{Conditions}
use Rattle.rules.proofs.Made.{terms_is, tier_numbered}
use Rattle.rules.proofs.terms.make.TermsTryFromConditions.try_from.Goals as goal

pub returns : goal.returns
returns c =
    let given : Conditions = c.args.given in
    let named : tier_number c.in_ok-try_from.field-0 ≡ given.tier = tier_numbered given.tier c.in_ok-try_from.field-0 (search rules) in
    let same : record { class = given.class; tier = tier_number c.in_ok-try_from.field-0; threshold = given.threshold; limit = given.limit; minimum = given.minimum } ≡ given =
    λ i. record { class = given.class; tier = named i; threshold = given.threshold; limit = given.limit; minimum = given.minimum } in
    (terms_is _ ∙ ap terms_of same, same)
