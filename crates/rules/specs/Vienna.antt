-- Vienna: which quotes meet which terms, and which quote is better than which.
use Rattle.std.specs.Prelude.{ℕ, ◌-◌, ◌≤◌, Bool, ◌&&◌, List, [], ◌∷◌, nat_le, slice_index}
use Rattle.rules.specs.declared.quote.Quote.{Quote}
use Rattle.rules.specs.declared.terms.Terms.{Terms}
use Rattle.rules.specs.declared.tier.Tier.{Tier}
use Rattle.rules.specs.declared.tier.Tier.TheVariants.{Relative, Stagnating, Fixed}
use Rattle.rules.specs.Spreads.{spread, within_points, WithinPoints, inside, Inside}

-- The widest spread of classes 1 to 7: in basis points of the bid, and in ten-thousandths of a euro.
abbrev pub relative_spreads : List ℕ
relative_spreads = 75 ∷ 100 ∷ 150 ∷ 200 ∷ 300 ∷ 400 ∷ 500 ∷ []

abbrev pub stagnating_spreads : List ℕ
stagnating_spreads = 800 ∷ 1000 ∷ 1000 ∷ 1000 ∷ 1500 ∷ 2000 ∷ 2500 ∷ []

abbrev pub fixed_spreads : List ℕ
fixed_spreads = 800 ∷ 1000 ∷ 1000 ∷ 1000 ∷ 1000 ∷ 1000 ∷ 1000 ∷ []

abbrev pub of_class : List ℕ → Terms → ℕ
of_class table t = slice_index table (t.class - 1)

-- What is asked of the width, by tier.
abbrev pub narrow_at : Tier → Quote → Terms → Bool
narrow_at Relative q t = within_points (of_class relative_spreads t) q
narrow_at Stagnating q t = nat_le (spread q) (of_class stagnating_spreads t)
narrow_at Fixed q t = nat_le (spread q) (of_class fixed_spreads t)

abbrev pub vienna_narrow : Quote → Terms → Bool
vienna_narrow q t = narrow_at t.tier q t

-- What is asked of the sizes.
abbrev pub vienna_large : Quote → Terms → Bool
vienna_large q t = nat_le t.minimum q.bid_size && nat_le t.minimum q.ask_size

abbrev pub vienna_meets : Quote → Terms → Bool
vienna_meets q t = vienna_narrow q t && vienna_large q t

-- q is better than p.
abbrev pub vienna_better : Quote → Quote → Bool
vienna_better q p = inside q p && (nat_le p.bid_size q.bid_size && nat_le p.ask_size q.ask_size)

-- The same in plain order.
abbrev pub NarrowAt : Tier → Quote → Terms → Type 0
NarrowAt Relative q t = WithinPoints (of_class relative_spreads t) q
NarrowAt Stagnating q t = spread q ≤ of_class stagnating_spreads t
NarrowAt Fixed q t = spread q ≤ of_class fixed_spreads t

abbrev pub MeetsVienna : Quote → Terms → Type 0
MeetsVienna q t = NarrowAt t.tier q t × (t.minimum ≤ q.bid_size) × (t.minimum ≤ q.ask_size)

abbrev pub BetterVienna : Quote → Quote → Type 0
BetterVienna q p = Inside q p × (p.bid_size ≤ q.bid_size) × (p.ask_size ≤ q.ask_size)
