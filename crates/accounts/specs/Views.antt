-- What the code's table and market stand for.
use Rattle.std.specs.Prelude.{ℕ, List, ◌∷◌, vec_items, slice_index_or}
use Rattle.accounts.specs.declared.account.Account.{Account}
use Rattle.accounts.specs.declared.market.Market.{Market}
use Rattle.calls.specs.declared.phase.Phase.{Phase}
use Rattle.calls.specs.declared.phase.Phase.TheVariants.{Closed}
use Rattle.accounts.specs.declared.table.Table.{Table}
use Rattle.accounts.specs.Settings.{Trading}

-- The accounts in order of their enrolment.
abbrev pub enrolled_in : Table → List Account
enrolled_in t = vec_items t.accounts

-- The phase of instrument i, 1 to 32.
abbrev pub phase_in : List Phase → ℕ → Phase
phase_in phases i = slice_index_or (Closed ∷ phases) i Closed

abbrev pub trading_in : Market → Trading
trading_in m = record { phase = phase_in m.phases; fast = m.fast }
