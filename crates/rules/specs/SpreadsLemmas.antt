-- A higher bid and a lower ask keep a spread within its limit.
use Rattle.std.specs.Prelude.{ℕ, ◌+◌, ◌-◌, ◌*◌, ◌≤◌}
use Rattle.std.proofs.Common.{mul-le-mul_left, mul-le-mul_right, mul-add, arith}
use Rattle.std.proofs.Math.Nat.{mul-sub}
use Rattle.rules.specs.declared.quote.Quote.{Quote}
use Rattle.rules.specs.Spreads.{spread, WithinPoints, Inside}

pub narrower : (p q : Quote) → Inside q p → spread q ≤ spread p
narrower p q i = omega (arith, i.0, i.1)

pub keeps_within : (points : ℕ) (p q : Quote) → Inside q p → WithinPoints points p → WithinPoints points q
keeps_within points p q i h = omega (arith, i.0, i.1, h, mul-le-mul_left points i.0)

-- against the middle: ask a and bid b give way to ask c and bid d
middle : (l a b c d : ℕ) → l ≤ 10_000 → b ≤ d → c ≤ a → 20_000 * (a - b) ≤ l * (a + b) → 20_000 * (c - d) ≤ l * (c + d)
middle l a b c d small up down h =
    omega (arith, mul-add l a b, mul-add l c d, mul-le-mul_left l up, mul-le-mul_left l down, mul-sub l a c, mul-le-mul_right (a - c) small)

pub keeps_middle : (limit : ℕ) (p q : Quote) → limit ≤ 10_000 → Inside q p → 20_000 * spread p ≤ limit * (p.ask + p.bid) → 20_000 * spread q ≤ limit * (q.ask + q.bid)
keeps_middle limit p q small i h = middle limit p.ask p.bid q.ask q.bid small i.0 i.1 h
