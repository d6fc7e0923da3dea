-- The name of each exchange.
use Rattle.std.specs.Prelude.{ℕ, cond, List, [], ◌∷◌, Some, None, codes, Option}
use Rattle.std.specs.Str.{bytes_eq}
use Rattle.exchanges.specs.declared.exchange.Exchange.{Exchange}
use Rattle.exchanges.specs.declared.unknown_exchange.UnknownExchange.{UnknownExchange}
use Rattle.exchanges.specs.declared.exchange.Exchange.TheVariants.{Vienna, Zagreb, Beta}

abbrev pub exchange_named : List ℕ → Option Exchange
exchange_named name =
    cond (bytes_eq name (codes "vienna")) (Some Vienna) (cond (bytes_eq name (codes "zagreb")) (Some Zagreb) (cond (bytes_eq name (codes "beta")) (Some Beta) None))

-- That no exchange has a name.
abbrev pub unknown : UnknownExchange
unknown = record {}

-- The one that a program's arguments name: behind the program's own name there is just that of the exchange.
abbrev pub exchange_of : List (List ℕ) → Option Exchange
exchange_of [] = None
exchange_of (program ∷ []) = None
exchange_of (program ∷ (name ∷ [])) = exchange_named name
exchange_of (program ∷ (name ∷ (more ∷ rest))) = None
