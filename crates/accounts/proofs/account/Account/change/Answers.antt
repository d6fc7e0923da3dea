use Rattle.std.proofs.Common.{◌≡◌, true, sym, ap, ◌∙◌}
use Rattle.std.specs.Result.{result_ok}
use Rattle.calls.specs.declared.change.Change.{Change}
use Rattle.accounts.specs.Accounts.{is, with_settings, account_changed}
use Rattle.accounts.specs.Settings.{override, if_so}
use Rattle.accounts.proofs.account.Account.change.Goals as goal

pub returns-in-Quote : goal.returns-in-Quote
returns-in-Quote c =
    let a = c.args.self.now in
    let quote = c.ok-self.ensures.value ∙ ap result_ok c.try_from.ensures.0 in
    let named : true ≡ is c.in-Quote.key a = cc c.if-is-2.ensures in
    (λ i. with_settings a.exempt (override (if_so (named i) (quote i)) a.quote) a)
    ∙ ap (λ (x : Change). account_changed x a) (sym c.in-Quote.is)
