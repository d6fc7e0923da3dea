use Rattle.std.proofs.Common.{◌≡◌, ℕ, ◌≤◌, ◌++◌, All, map, length, take, drop, get_or}
use Rattle.accounts.specs.declared.account.Account.{Account}
use Rattle.accounts.specs.Changes.{Makes}
use Rattle.accounts.specs.Views.{enrolled_in}
use Rattle.accounts.proofs.table.Table.change_each.Given as goal

-- The accounts ahead are as they were, and those behind are what the step makes of them.
abbrev pub invariant-loop-place : goal.invariant-loop-place
invariant-loop-place g l = let xs = enrolled_in l.initial.self in record {
  count : length (enrolled_in l.self) ≡ length xs;
  ahead : (k : ℕ) (d : Account) → l.place ≤ k → get_or (enrolled_in l.self) k d ≡ get_or xs k d;
  behind : (f : Account → Account) → All (Makes g.F.Fn l.step f) xs → enrolled_in l.self ≡ map f (take l.place xs) ++ drop l.place xs;
}
