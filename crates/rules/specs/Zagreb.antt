-- Zagreb: which quotes meet which terms, and which quote is better than which. The minimum is an amount of money, in
-- ten-thousandths of a euro; class and tier are not read.
use Rattle.std.specs.Prelude.{ℕ, ◌*◌, ◌≤◌, Bool, ◌&&◌, nat_le}
use Rattle.rules.specs.declared.quote.Quote.{Quote}
use Rattle.rules.specs.declared.terms.Terms.{Terms}
use Rattle.rules.specs.Spreads.{within_points, WithinPoints, inside, Inside}

-- What each side of a quote is worth.
abbrev pub bid_worth : Quote → ℕ
bid_worth q = q.bid * q.bid_size

abbrev pub ask_worth : Quote → ℕ
ask_worth q = q.ask * q.ask_size

-- What is asked of the width.
abbrev pub zagreb_narrow : Quote → Terms → Bool
zagreb_narrow q t = within_points t.limit q

-- What is asked of the sizes.
abbrev pub zagreb_large : Quote → Terms → Bool
zagreb_large q t = nat_le t.minimum (bid_worth q) && nat_le t.minimum (ask_worth q)

abbrev pub zagreb_meets : Quote → Terms → Bool
zagreb_meets q t = zagreb_narrow q t && zagreb_large q t

-- q is better than p. A lower ask with the same size is worth less, and so is not better.
abbrev pub zagreb_better : Quote → Quote → Bool
zagreb_better q p = inside q p && (nat_le p.bid_size q.bid_size && nat_le (ask_worth p) (ask_worth q))

-- The same in plain order.
abbrev pub MeetsZagreb : Quote → Terms → Type 0
MeetsZagreb q t = WithinPoints t.limit q × (t.minimum ≤ bid_worth q) × (t.minimum ≤ ask_worth q)

abbrev pub BetterZagreb : Quote → Quote → Type 0
BetterZagreb q p = Inside q p × (p.bid_size ≤ q.bid_size) × (ask_worth p ≤ ask_worth q)
