-- What a step that is given as a closure makes of an account.
use Rattle.std.specs.Prelude.{◌≡◌}
use Rattle.std.specs.Borrow.{MutBor}
use Rattle.std.specs.Fn.{Shared}
use Rattle.accounts.specs.declared.account.Account.{Account}

module _ {F : Type 0} (g : Shared F (MutBor Account × Unit {0}) (Unit {0} × (MutBor Account × Unit {0}))) (step : F) where
  -- The step may be called with x.
  abbrev pub MayCall : Account → Type 0
  MayCall x = (lent : MutBor Account) → lent.now ≡ x → g.pre step (lent, tt)

  -- Called with x, it may leave y.
  pub record Leaves (x y : Account) : Type 0 where
    pub lent : MutBor Account
    pub lent_is : lent.now ≡ x
    pub left : MutBor Account
    pub call : g.post step (lent, tt) (tt, (left, tt))
    pub left_is : left.now ≡ y

  -- Called with x, it leaves f x.
  abbrev pub Makes : (Account → Account) → Account → Type 0
  Makes f x = (y : Account) → Leaves x y → y ≡ f x
