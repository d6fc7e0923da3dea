-- The phase that has a number in calls.
use Rattle.std.specs.Prelude.{ℕ, Bool, true, false, cond, Some, None, Option, ◌==◌}
use Rattle.calls.specs.declared.phase.Phase.{Phase}
use Rattle.calls.specs.declared.phase.Phase.TheVariants.{Closed, Auction, Continuous, Interrupted}

abbrev pub phase_of : ℕ → Option Phase
phase_of n = cond (n == 0) (Some Closed) (cond (n == 1) (Some Auction) (cond (n == 2) (Some Continuous) (cond (n == 3) (Some Interrupted) None)))

abbrev pub continuous : Phase → Bool
continuous Closed = false
continuous Auction = false
continuous Continuous = true
continuous Interrupted = false
