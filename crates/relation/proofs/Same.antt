-- The derived equality of calls decides whether two lists of them are equal.
use Rattle.std.proofs.Common.{◌≡◌, Bool, List, Decides, rules}
use Rattle.std.specs.Cmp.Lexicographic.{pointwise}
use Rattle.std.proofs.lemmas.Slice.Eq.{slice_eq-Decides}
use Rattle.calls.specs.declared.call.Call.{Call}
use Rattle.calls.specs.contracts.call.CallPartialEq.TheImpl as impl

pub same_call : (a b : Call) → Decides ((impl.ghosts).eq a b) (a ≡ b)
same_call a b = (λ e. search rules, λ e. search rules)

pub same_calls : (xs ys : List Call) (r : Bool) → r ≡ pointwise (impl.ghosts).eq xs ys → Decides r (xs ≡ ys)
same_calls = slice_eq-Decides same_call
