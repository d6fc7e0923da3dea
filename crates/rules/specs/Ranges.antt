-- Ranges with both ends in: the test, and what it says.
use Rattle.std.specs.Prelude.{◌≡◌, ℕ, ◌≤◌, Bool, true, ◌&&◌, nat_le}
use Rattle.std.proofs.lemmas.Bool.{and_parts, leb-true}

abbrev pub within : ℕ → ℕ → ℕ → Bool
within low high n = nat_le low n && nat_le n high

abbrev pub Within : ℕ → ℕ → ℕ → Type 0
Within low high n = (low ≤ n) × (n ≤ high)

pub within_says : (low high n : ℕ) → within low high n ≡ true → Within low high n
within_says low high n e = let h = and_parts (nat_le low n) (nat_le n high) e in (leb-true low n h.0, leb-true n high h.1)
