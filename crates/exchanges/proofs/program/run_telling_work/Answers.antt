use Rattle.std.proofs.Common.{◌≡◌, Option, rules, subst}
use Rattle.std.specs.Process.{exit_status}
use Rattle.exchanges.specs.declared.exchange.Exchange.{Exchange}
use Rattle.exchanges.specs.Ends.{Ends, status_of}
use Rattle.exchanges.proofs.program.run_telling_work.Goals as goal
use Rattle.exchanges.proofs.program.run_telling_work.Goals.{in-Ok, in-Err}

pub returns : goal.returns
returns g c =
    let named = c.in-Some.ensures in
    let ended : exit_status c.match-run.result ≡ status_of c.run.result = elim c.match-run.branch [ in-Ok w ↦ search rules | in-Err w ↦ search rules ] in
    (named.0, subst (λ (o : Option Exchange). Ends (g.W.ByRules.comes c.args.work) o (exit_status c.match-run.result)) named.1 (c.run.result, c.run.ensures, ended))
