-- The number of each tier in terms as they are given, and the tier of a number.
use Rattle.std.specs.Prelude.{ℕ, cond, Some, None, Option, ◌==◌}
use Rattle.rules.specs.declared.tier.Tier.{Tier}
use Rattle.rules.specs.declared.tier.Tier.TheVariants.{Relative, Stagnating, Fixed}

abbrev pub tier_number : Tier → ℕ
tier_number Relative = 0
tier_number Stagnating = 1
tier_number Fixed = 2

abbrev pub tier_of : ℕ → Option Tier
tier_of n = cond (n == 0) (Some Relative) (cond (n == 1) (Some Stagnating) (cond (n == 2) (Some Fixed) None))
