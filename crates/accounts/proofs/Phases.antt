-- Every phase is closed as a day opens.
use Rattle.std.proofs.Common.{◌≡◌, ℕ, zero, suc, replicate, get_or, refl}
use mathlib.Core.Path.{fun_ext}
use Rattle.calls.specs.declared.phase.Phase.TheVariants.{Closed}
use Rattle.accounts.specs.Views.{phase_in}

all_closed : (n j : ℕ) → get_or (replicate n Closed) j Closed ≡ Closed
all_closed zero j = refl
all_closed (suc n) zero = refl
all_closed (suc n) (suc j) = all_closed n j

pub phases_closed : phase_in (replicate 32 Closed) ≡ (λ _. Closed)
phases_closed = fun_ext (λ j. all_closed 33 j)
