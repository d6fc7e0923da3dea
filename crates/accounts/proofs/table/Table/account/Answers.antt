use Rattle.std.proofs.Common.{rules, ap, ◌∙◌, find}
use Rattle.std.proofs.lemmas.Iterator.{YieldsList-from_slice}
use Rattle.std.proofs.lemmas.Iterator.Search.{find_from_yields_List}
use Rattle.accounts.specs.Accounts.{is}
use Rattle.accounts.proofs.table.Table.account.Goals as goal

pub returns : goal.returns
returns c =
    let p = is c.args.key.now in
    c.copied.ensures ∙ find_from_yields_List p _ _ _ c.find.ensures.ran (YieldsList-from_slice c.deref.result.now cc) (λ x b q k. search rules) ∙ ap (find p) c.deref.ensures.value
