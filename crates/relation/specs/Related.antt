-- In which relation two lists of calls are.
use Rattle.std.specs.Prelude.{◌≡◌, ℕ, Bool, List, Some, None, Option}
use Rattle.rules.specs.declared.quote.Quote.{Quote}
use Rattle.calls.specs.declared.call.Call.{Call}
use Rattle.laws.specs.Exchange.{Exchangeable, MayAll, exchange_all}
use Rattle.laws.specs.Tighter.{Bettered, Each}
use Rattle.relation.specs.declared.related.Relation.{Relation}
use Rattle.relation.specs.declared.related.Relation.TheVariants as relation

-- ds is cs with neighbours exchanged, pair after pair, each time two calls of one stamp that set different things.
abbrev pub Rearranged : List Call → List Call → Type 0
Rearranged cs ds = (ns : List ℕ) × MayAll Exchangeable ns cs × (ds ≡ exchange_all ns cs)

-- What each answer says of the first list, cs, and the second, ds. Where none is told there may be one.
abbrev pub Related : (Quote → Quote → Bool) → List Call → List Call → Option Relation → Type 0
Related better cs ds (Some relation.Same) = cs ≡ ds
Related better cs ds (Some relation.Bettered) = Each (Bettered better) cs ds
Related better cs ds (Some relation.Reordered) = Rearranged cs ds
Related better cs ds None = Unit {0}
