-- What the exchanges' rules share on the prices of a quote: the test, and its reading in plain order.
use Rattle.std.specs.Prelude.{ℕ, ◌-◌, ◌*◌, ◌≤◌, Bool, ◌&&◌, nat_le}
use Rattle.rules.specs.declared.quote.Quote.{Quote}

abbrev pub spread : Quote → ℕ
spread q = q.ask - q.bid

-- The spread is at most so many basis points of the bid.
abbrev pub within_points : ℕ → Quote → Bool
within_points points q = nat_le (spread q * 10_000) (points * q.bid)

abbrev pub WithinPoints : ℕ → Quote → Type 0
WithinPoints points q = spread q * 10_000 ≤ points * q.bid

-- The bid of q is no lower than that of p, and its ask is no higher.
abbrev pub inside : Quote → Quote → Bool
inside q p = nat_le p.bid q.bid && nat_le q.ask p.ask

abbrev pub Inside : Quote → Quote → Type 0
Inside q p = (p.bid ≤ q.bid) × (q.ask ≤ p.ask)
