use Rattle.std.proofs.Common.{◌≡◌, ℕ, Bool, true, false, ◌≢◌, Some, None, Option, rules, IfSome}
use Rattle.std.specs.Option.{MatchOption}
use Rattle.std.proofs.lemmas.Bool.{both_ways}
use Rattle.calls.specs.declared.call.Call.{Call}
use Rattle.calls.specs.declared.call.Call.TheVariants.{At}
use Rattle.calls.specs.declared.change.Change.{Change}
use Rattle.laws.specs.Exchange.{thing, at_once, Exchangeable}
use Rattle.relation.proofs.exchange.may_exchange.Goals as goal

-- Of two changes at once that set different things.
exchangeable : (o : Option (Change × Change)) (a b : Call) (r : Bool) (P : Change × Change → Type 0) →
    IfSome o (λ p. (n : ℕ) × (a ≡ At n p.0) × (b ≡ At n p.1)) → MatchOption o (r ≡ false) P →
    ((p : Change × Change) → P p → r ≡ true → thing p.0 ≢ thing p.1) → r ≡ true → Exchangeable a b
exchangeable None a b r P at f apart e = absurd (both_ways r f e)
exchangeable (Some p) a b r P at told apart e = rw (at.1, at.2) (at_once at.0 p.0 p.1 (apart p told e))

pub returns : goal.returns
returns c = exchangeable _ _ _ c.is_some_and.result _ c.changes_at_once.ensures c.is_some_and.ensures (λ p h e. search rules)
