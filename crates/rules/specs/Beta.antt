-- BETa: which quotes meet which terms, and which quote is better than which. Class and tier are not read.
use Rattle.std.specs.Prelude.{ℕ, ◌+◌, ◌*◌, ◌≤◌, min, max, Bool, ◌&&◌, nat_le}
use Rattle.rules.specs.declared.quote.Quote.{Quote}
use Rattle.rules.specs.declared.terms.Terms.{Terms}
use Rattle.rules.specs.Spreads.{spread, inside, Inside}

abbrev pub smaller_size : Quote → ℕ
smaller_size q = min q.bid_size q.ask_size

abbrev pub larger_size : Quote → ℕ
larger_size q = max q.bid_size q.ask_size

-- What is asked of the width: the spread against the middle of bid and ask, both sides doubled.
abbrev pub beta_narrow : Quote → Terms → Bool
beta_narrow q t = nat_le (20_000 * spread q) (t.limit * (q.ask + q.bid))

-- What is asked of the sizes: the minimum, and that they are not too far apart.
abbrev pub beta_large : Quote → Terms → Bool
beta_large q t = nat_le t.minimum (smaller_size q) && nat_le (larger_size q) (2 * smaller_size q)

abbrev pub beta_meets : Quote → Terms → Bool
beta_meets q t = beta_narrow q t && beta_large q t

-- q is better than p.
abbrev pub beta_better : Quote → Quote → Bool
beta_better q p = inside q p && (nat_le (smaller_size p) (smaller_size q) && nat_le (larger_size q) (larger_size p))

-- The same in plain order.
abbrev pub MeetsBeta : Quote → Terms → Type 0
MeetsBeta q t = (20_000 * spread q ≤ t.limit * (q.ask + q.bid)) × (t.minimum ≤ smaller_size q) × (larger_size q ≤ 2 * smaller_size q)

abbrev pub BetterBeta : Quote → Quote → Type 0
BetterBeta q p = Inside q p × (smaller_size p ≤ smaller_size q) × (larger_size q ≤ larger_size p)
